use Rattle.saved.proofs.Answers.{over_yes, over_no}
use Rattle.saved.proofs.repair.left_over.Goals as goal

pub returns-then-two : goal.returns-then-two
returns-then-two c = over_yes _ _ c.if-two.true

pub returns : goal.returns
returns c = over_no _ _ c.if-two.false
