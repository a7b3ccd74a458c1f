use Rattle.rounds1.specs.Block.{plus}
use Rattle.rounds1.proofs.sum.Goals as goal

pub returns : goal.returns
unfolding plus
returns c = cc
