use Rattle.std.proofs.Common.{arith, length, length-set, ◌≡◌, refl, ◌∙◌, rules}
use Rattle.saved.proofs.Saving.{opening_put}
use Rattle.saved.proofs.save.put_opening.Goals as goal

pub put_number-requires : goal.put_number-requires
put_number-requires c = (omega (arith, c.requires, length-set c.args.out.now 0 1), omega arith)

pub put_number-requires-2 : goal.put_number-requires-2
put_number-requires-2 c = (omega (arith, c.requires, c.put_number.auto.bytes, length-set c.args.out.now 0 1), omega arith)

pub put_hash-requires : goal.put_hash-requires
put_hash-requires c = omega (arith, c.requires, c.put_number-2.auto.bytes, c.put_number.auto.bytes, length-set c.args.out.now 0 1)

pub shape_of-out : goal.shape_of-out
shape_of-out c = c.put_hash.auto.bytes ∙ c.put_number-2.auto.bytes ∙ c.put_number.auto.bytes ∙ length-set c.args.out.now 0 1

pub returns : goal.returns
returns c = opening_put _ _ _ _ _ _ _ _ c.requires ((let it : length c.args.root ≡ 32 = search rules in it)) refl c.put_number.ensures c.put_number-2.ensures c.put_hash.ensures
