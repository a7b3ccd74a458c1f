use Rattle.bits.specs.Words.{Parity}
use Rattle.std.proofs.Common.{refl}
use Rattle.bits.proofs.parity.Goals as goal

pub returns : goal.returns
unfolding Parity
returns c = refl
