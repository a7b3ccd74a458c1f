use Rattle.rounds.specs.Block.{plus}
use Rattle.rounds.proofs.sum.Goals as goal

pub returns : goal.returns
unfolding plus
returns c = cc
