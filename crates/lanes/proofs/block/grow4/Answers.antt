-- Four words in a row; the other lanes stay throughout.
-- Assumes nothing.
use Rattle.lanes.specs.LanesLaws.{four_growings, beside_then}
use Rattle.lanes.proofs.block.grow4.Goals as goal

pub returns : goal.returns
returns c = (
  four_growings _ _ _ _ _ c.args.i c.grow.ensures.0 c.grow-2.ensures.0 c.grow-3.ensures.0 c.grow-4.ensures.0,
  beside_then (beside_then c.grow.ensures.1 c.grow-2.ensures.1) (beside_then c.grow-3.ensures.1 c.grow-4.ensures.1),
)
