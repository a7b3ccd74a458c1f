-- The heap over the run has the subtree's hashes.
-- Assumes nothing.
use Rattle.std.proofs.Common.{arith, ap, ◌∙◌}
use Rattle.cells.specs.Entries.{fresh, put_all}
use Rattle.settling.specs.Subtree.{run_leaf}
use Rattle.heaps.specs.HeapsLaws.{worked_parents}
use Rattle.settling.specs.HeapLaws.{over_run, fit_leaves, fit_first, heap_whole, worked_top, worked_subtree}
use Rattle.settling.proofs.write_part.Goals as goal

pub work-requires : goal.work-requires
work-requires c = let a = c.args in
    let p = c.requires in
    let q = fit_leaves p.0 a.m p.1 in
    (p.2, q.0, omega (arith, q.1))

pub hash_at-hash-requires : goal.hash_at-hash-requires
hash_at-hash-requires c = let a = c.args in
    let p = c.requires in
    let leaf = run_leaf a.run.now a.pad in
    let w = c.work.ensures leaf (over_run a.run.now a.pad) in
    let q = fit_leaves p.0 a.m p.1 in omega (arith, w.size, q.0)

pub write_heap-new-requires : goal.write_heap-new-requires
write_heap-new-requires c = let a = c.args in
    let p = c.requires in
    let leaf = run_leaf a.run.now a.pad in
    let w = c.work.ensures leaf (over_run a.run.now a.pad) in
    (fit_first p.0, worked_parents leaf a.m a.index _ w, omega arith, heap_whole _ a.height a.m p.1 w.size)

pub returns : goal.returns
returns c = let a = c.args in
    let p = c.requires in
    let leaf = run_leaf a.run.now a.pad in
    let w = c.work.ensures leaf (over_run a.run.now a.pad) in
    let e = worked_subtree leaf a.height a.index _ a.m a.top p.1 w in
    let h = c.write_heap-new.ensures in (
      c.hash_at-hash.ensures ∙ worked_top leaf a.height a.index _ a.m p.1 w,
      (h.0 ∙ ap (fresh a.store.now) e, h.1 ∙ ap (put_all a.store.now) e),
    )
