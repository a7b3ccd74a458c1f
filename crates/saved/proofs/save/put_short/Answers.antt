use Rattle.std.proofs.Common.{arith, length-set, refl, ◌∙◌}
use Rattle.saved.proofs.Saving.{short_put}
use Rattle.saved.proofs.save.put_short.Goals as goal

pub put_number-requires : goal.put_number-requires
put_number-requires c = (omega (arith, c.requires, length-set c.args.out.now c.args.at c.args.kind), omega arith)

pub shape_of-out : goal.shape_of-out
shape_of-out c = c.put_number.auto.bytes ∙ length-set c.args.out.now c.args.at c.args.kind

pub returns : goal.returns
returns c = short_put _ _ _ _ _ _ c.requires refl c.put_number.ensures
