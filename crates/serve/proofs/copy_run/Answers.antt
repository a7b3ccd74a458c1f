-- The loop has written the first i hashes of the run, one after the other.
use Rattle.std.proofs.Common.{arith, refl, ◌∙◌}
use Rattle.serve.proofs.Loops.{copy_run_none, copy_run_more, copy_run_done}
use Rattle.serve.proofs.copy_run.Goals as goal

pub loop-i-init : goal.loop-i-init
loop-i-init c = let a = c.args in
    (refl, copy_run_none a.store.now a.n a.at a.out.now)

pub overflow_add-n : goal.overflow_add-n
overflow_add-n c = omega (arith, c.requires, c.loop-i.invariant.0)

pub hash_of-h-requires : goal.hash_of-h-requires
hash_of-h-requires c = omega (arith, c.requires, c.loop-i.invariant.0)

pub overflow_mul-i : goal.overflow_mul-i
overflow_mul-i c = omega (arith, c.requires, c.loop-i.invariant.0)

pub overflow_add-at : goal.overflow_add-at
overflow_add-at c = omega (arith, c.requires, c.loop-i.invariant.0)

pub put_hash-requires : goal.put_hash-requires
put_hash-requires c = omega (arith, c.requires, c.loop-i.invariant.0)

pub loop-i-preserved : goal.loop-i-preserved
loop-i-preserved c = let a = c.args in
    let l = c.loop-i in
    let q = c.requires in (
      c.put_hash.auto.bytes ∙ l.invariant.0,
      copy_run_more a.store.now a.n a.at a.out.now l.i l.out c.put_hash.new.bytes c.hash_of-h.result (omega (arith, q.1)) c.put_hash.ensures a.c q.0 (omega arith) c.hash_of-h.ensures l.invariant.1,
    )

pub shape_of-out : goal.shape_of-out
shape_of-out c = c.loop-i.invariant.0

pub returns : goal.returns
returns c = let a = c.args in
    let l = c.loop-i in
    copy_run_done a.store.now a.n a.at a.out.now a.c l.i l.out (omega arith) (omega arith) l.invariant.1
