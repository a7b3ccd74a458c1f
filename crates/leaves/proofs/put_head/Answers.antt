-- The id, the root and the four numbers are put one behind the other.
use Rattle.std.proofs.Common.{arith, length-set, ◌∙◌}
use Rattle.leaves.proofs.Writing.{head_put}
use Rattle.leaves.proofs.put_head.Goals as goal

pub put_hash-requires : goal.put_hash-requires
put_hash-requires c = omega (arith, c.requires, length-set c.args.out.now 0 22)

pub put_number-requires : goal.put_number-requires
put_number-requires c = (omega (arith, c.requires, length-set c.args.out.now 0 22, c.put_hash.auto.bytes), omega arith)

pub put_number-requires-2 : goal.put_number-requires-2
put_number-requires-2 c = (omega (arith, c.requires, length-set c.args.out.now 0 22, c.put_number.auto.bytes, c.put_hash.auto.bytes), omega arith)

pub put_number-requires-3 : goal.put_number-requires-3
put_number-requires-3 c = (omega (arith, c.requires, length-set c.args.out.now 0 22, c.put_number-2.auto.bytes, c.put_number.auto.bytes, c.put_hash.auto.bytes), omega arith)

pub put_number-requires-4 : goal.put_number-requires-4
put_number-requires-4 c = (omega (arith, c.requires, length-set c.args.out.now 0 22, c.put_number-3.auto.bytes, c.put_number-2.auto.bytes, c.put_number.auto.bytes, c.put_hash.auto.bytes), omega arith)

pub shape_of-out : goal.shape_of-out
shape_of-out c = c.put_number-4.auto.bytes ∙ c.put_number-3.auto.bytes ∙ c.put_number-2.auto.bytes ∙ c.put_number.auto.bytes ∙ c.put_hash.auto.bytes ∙ length-set c.args.out.now 0 22

pub returns : goal.returns
returns c = head_put c.args.out.now c.args.root c.args.index c.args.len _ _ _ _ _ c.well_formed.1.0.1.0.1 c.requires
    c.put_hash.ensures c.put_number.ensures c.put_number-2.ensures c.put_number-3.ensures c.put_number-4.ensures
