use Rattle.std.proofs.Common.{rules}
use Rattle.history.specs.Answers.{passed}
use Rattle.history.proofs.passed.Goals as goal

pub returns : goal.returns
unfolding passed
returns c = search rules
