use Rattle.std.proofs.Common.{refl}
use Rattle.halves.specs.Stream.{zeros_behind}
use Rattle.v1.proofs.read.zeros_behind.Goals as goal

pub returns : goal.returns
unfolding zeros_behind
returns c = rw (c.min-whole.ensures, c.min-own.ensures) refl
