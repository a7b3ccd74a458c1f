use Rattle.saved.proofs.Answers.{mend_not, mend_done}
use Rattle.saved.proofs.repair.mend_two.Goals as goal

pub returns-then-not-two : goal.returns-then-not-two
returns-then-not-two c = mend_not _ _ _ _ _ _ c.joins-two.ensures (c.if-not-two.true)

pub returns : goal.returns
returns c = mend_done _ _ _ _ _ _ _ _ c.joins-two.ensures (c.if-not-two.false) c.put_place.ensures c.put_place-2.ensures
