use Rattle.std.proofs.Common.{rules}
use Rattle.running.specs.Bursts.{to_words}
use Rattle.running.proofs.to_words.Goals as goal

pub returns : goal.returns
unfolding to_words
returns c = search rules
