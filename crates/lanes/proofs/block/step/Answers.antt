-- The word that is read is the lane's, so with its round word it is the lane's sum.
-- Assumes nothing.
use Rattle.lanes.specs.LanesLaws.{step_lane}
use Rattle.lanes.proofs.block.step.Goals as goal

pub returns : goal.returns
returns c = step_lane c.args.k.now c.args.w.now c.args.s _ c.args.i c.args.j c.add.result c.requires.0 c.add.ensures c.round.ensures
