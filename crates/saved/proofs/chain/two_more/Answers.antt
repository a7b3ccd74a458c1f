use Rattle.saved.proofs.Answers.{two_from}
use Rattle.saved.proofs.chain.two_more.Goals as goal

pub returns : goal.returns
returns c = two_from _ _ _ c.from.ensures
