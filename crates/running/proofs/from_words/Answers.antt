use Rattle.std.proofs.Common.{rules}
use Rattle.running.specs.Bursts.{from_words}
use Rattle.running.proofs.from_words.Goals as goal

pub returns : goal.returns
unfolding from_words
returns c = search rules
