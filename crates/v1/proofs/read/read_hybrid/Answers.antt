use Rattle.std.proofs.Common.{refl}
use Rattle.numbers.specs.Refusals.{refused_is_some}
use Rattle.octets.specs.Octets.{cut}
use Rattle.v1.specs.KnownLaws.{known_so}
use Rattle.v1.specs.ReadLaws.{hybrid_refused, hybrid_not, hybrid_is}
use Rattle.v1.proofs.read.read_hybrid.Goals as goal

pub slice_bounds-hash-count : goal.slice_bounds-hash-count
slice_bounds-hash-count c = (known_so _ _ c.in-Ok.ensures refl).info_forward

pub slice_bounds-hash-start : goal.slice_bounds-hash-start
slice_bounds-hash-start c = (known_so _ _ c.in-Ok.ensures refl).info_forward

pub slice_bounds-hash-end : goal.slice_bounds-hash-end
slice_bounds-hash-end c = (known_so _ _ c.in-Ok.ensures refl).info_within

pub returns-in-None : goal.returns-in-None
returns-in-None c = hybrid_not _ _ c.in-Ok.ensures refl _ c.pieces_from.ensures c.in-None.is

pub returns-in-Some : goal.returns-in-Some
unfolding cut
returns-in-Some c = hybrid_is _ _ c.in-Ok.ensures refl _ c.pieces_from.ensures _ _ c.in-Some.is _ c.hash.ensures

pub returns-in-Err : goal.returns-in-Err
returns-in-Err c = hybrid_refused _ _ c.in-Err.ensures (refused_is_some _)
