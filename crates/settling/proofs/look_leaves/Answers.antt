-- The heap over the leaves has the subtree's hashes.
-- Assumes nothing.
use Rattle.std.proofs.Common.{arith, ap, ◌∙◌}
use Rattle.cells.specs.Entries.{agrees}
use Rattle.heaps.specs.HeapsLaws.{worked_parents}
use Rattle.settling.specs.HeapLaws.{fit_leaves, fit_first, heap_whole, worked_top, worked_subtree}
use Rattle.settling.proofs.look_leaves.Goals as goal

pub fill-requires : goal.fill-requires
fill-requires g c = let a = c.args in
    let p = c.requires in
    let q = fit_leaves p.0 a.m p.1 in
    (p.2, q.0, omega (arith, q.1))

pub hash_at-hash-requires : goal.hash_at-hash-requires
hash_at-hash-requires g c = let a = c.args in
    let p = c.requires in
    let leaf = g.L.Leaves.leaf a.leaves.now in
    let w = c.fill.ensures in
    let q = fit_leaves p.0 a.m p.1 in omega (arith, w.size, q.0)

pub look_heap-agrees-requires : goal.look_heap-agrees-requires
look_heap-agrees-requires g c = let a = c.args in
    let p = c.requires in
    let leaf = g.L.Leaves.leaf a.leaves.now in
    let w = c.fill.ensures in
    (fit_first p.0, worked_parents leaf a.m a.index _ w, omega arith, heap_whole _ a.height a.m p.1 w.size)

pub returns : goal.returns
returns g c = let a = c.args in
    let p = c.requires in
    let leaf = g.L.Leaves.leaf a.leaves.now in
    let w = c.fill.ensures in (
      c.hash_at-hash.ensures ∙ worked_top leaf a.height a.index _ a.m p.1 w,
      c.look_heap-agrees.ensures ∙ ap (agrees a.store.now) (worked_subtree leaf a.height a.index _ a.m a.top p.1 w),
      w,
    )
