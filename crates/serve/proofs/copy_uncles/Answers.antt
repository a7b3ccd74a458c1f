-- The loop stands at the position i layers above n, and has written the i uncles below it.
use Rattle.std.proofs.Common.{arith, refl, ◌∙◌}
use Rattle.serve.proofs.Loops.{ancestor_none, ancestor_next, ancestor_cell, uncle_cell, copy_uncles_none, copy_uncles_more, copy_uncles_done}
use Rattle.serve.proofs.copy_uncles.Goals as goal

pub loop-i-init : goal.loop-i-init
loop-i-init c = let a = c.args in
    (ancestor_none a.n, refl, copy_uncles_none a.store.now a.n a.at a.out.now)

pub sibling-q-requires : goal.sibling-q-requires
sibling-q-requires c = let a = c.args in
    let l = c.loop-i in
    omega (arith, c.requires, ancestor_cell l.i a.n l.x l.invariant.0)

pub hash_of-h-requires : goal.hash_of-h-requires
hash_of-h-requires c = let a = c.args in
    let l = c.loop-i in
    omega (
      arith,
      c.requires,
      ancestor_cell l.i a.n l.x l.invariant.0,
      uncle_cell a.store.now a.n l.i l.x c.sibling-q.result c.requires.0 l.invariant.0 c.sibling-q.ensures,
    )

pub overflow_mul-i : goal.overflow_mul-i
overflow_mul-i c = omega (arith, c.requires, c.loop-i.invariant.1)

pub overflow_add-at : goal.overflow_add-at
overflow_add-at c = omega (arith, c.requires, c.loop-i.invariant.1)

pub put_hash-requires : goal.put_hash-requires
put_hash-requires c = omega (arith, c.requires, c.loop-i.invariant.1)

pub loop-i-preserved : goal.loop-i-preserved
loop-i-preserved c = let a = c.args in
    let l = c.loop-i in
    let q = c.requires in (
      ancestor_next l.i a.n l.x l.invariant.0,
      c.put_hash.auto.bytes ∙ l.invariant.1,
      copy_uncles_more a.store.now a.n a.at a.out.now l.i l.out c.put_hash.new.bytes c.hash_of-h.result (omega (arith, q.1)) c.put_hash.ensures l.x c.sibling-q.result q.0 l.invariant.0 c.sibling-q.ensures c.hash_of-h.ensures l.invariant.2,
    )

pub shape_of-out : goal.shape_of-out
shape_of-out c = c.loop-i.invariant.1

pub returns : goal.returns
returns c = let a = c.args in
    let l = c.loop-i in
    copy_uncles_done a.store.now a.n a.at a.out.now a.u l.i l.out (omega arith) (omega arith) l.invariant.2
