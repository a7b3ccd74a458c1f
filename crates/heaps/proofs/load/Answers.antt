-- The loop's invariant: the first y leaves are loaded.
-- Assumes nothing.
use Rattle.std.proofs.Common.{arith, ◌≡◌, sym, ◌∙◌}
use Rattle.heaps.proofs.Steps.{loaded_more}
use Rattle.heaps.proofs.load.Goals as goal

pub loop-y-init : goal.loop-y-init
loop-y-init c = (c.requires.0, λ leaf o z h. absurd (omega arith))

pub put_hash-requires : goal.put_hash-requires
put_hash-requires c = omega (arith, c.loop-y.invariant.0)

pub loop-y-preserved : goal.loop-y-preserved
loop-y-preserved c = let a = c.args in
    let l = c.loop-y in
    let h = c.leaf_in-h in (
      c.put_hash.auto.bytes ∙ l.invariant.0,
      λ leaf o. loaded_more leaf l.heap _ h.result a.leaves a.from l.y l.invariant.0 (omega arith) h.ensures.0 (h.ensures.1 leaf o) c.put_hash.ensures (l.invariant.1 leaf o),
    )

pub shape_of-heap : goal.shape_of-heap
shape_of-heap c = c.loop-y.invariant.0 ∙ sym c.requires.0

pub returns : goal.returns
returns c = let e : c.loop-y.y ≡ c.args.leaves = omega arith in
    (c.loop-y.invariant.0, λ leaf o y h. c.loop-y.invariant.1 leaf o y (omega arith))
