use Rattle.stream.specs.ReadingLaws.{mode_unknown, mode_right, mode_wrong}
use Rattle.stream.proofs.mode_of.Goals as goal

pub returns-then-right_for : goal.returns-then-right_for
returns-then-right_for c = mode_right c.args.id c.args.l _ c.right_for.result c.in-Some.ensures c.right_for.ensures c.if-right_for.true

pub returns-else-right_for : goal.returns-else-right_for
returns-else-right_for c = mode_wrong c.args.id c.args.l _ c.right_for.result c.in-Some.ensures c.right_for.ensures c.if-right_for.false

pub returns-in-None : goal.returns-in-None
returns-in-None c = mode_unknown c.args.id c.args.l c.in-None.ensures
