-- By the loop: wherever the first leaves stood in front, the first i do now.
use Rattle.std.proofs.Common.{arith, refl, ◌∙◌}
use Rattle.leaves.proofs.Writing.{leaf_one, leaf_done}
use Rattle.leaves.proofs.put_rest.Goals as goal

pub loop-i-init : goal.loop-i-init
loop-i-init c = (refl, λ o l e. e)

pub put_hash-requires : goal.put_hash-requires
put_hash-requires c = omega (arith, c.requires, c.loop-i.invariant.0)

pub loop-i-preserved : goal.loop-i-preserved
loop-i-preserved c = let a = c.args in
    let q = c.requires in
    let l = c.loop-i in (
      c.put_hash.auto.bytes ∙ l.invariant.0,
      λ o k e. leaf_one a.bytes.now o l.out _ _ a.at l.i (omega (arith, q.1)) c.leaf_of-h.ensures (l.invariant.1 o k e) c.put_hash.ensures,
    )

pub shape_of-out : goal.shape_of-out
shape_of-out c = c.loop-i.invariant.0

pub returns : goal.returns
returns c = let a = c.args in
    let l = c.loop-i in
    λ o k e. leaf_done a.bytes.now o l.out a.at a.c l.i (omega arith) (omega arith) (l.invariant.1 o k e)
