use Rattle.std.proofs.Common.{arith}
use Rattle.places.specs.Places.{length_of}
use Rattle.places.proofs.length_of.Goals as goal

pub number_at-requires : goal.number_at-requires
number_at-requires c = let p = c.requires in (omega arith, omega arith)

pub returns : goal.returns
unfolding length_of
returns c = c.number_at.ensures.0
