-- Eight reads are the state of the lane.
-- Assumes nothing.
use Rattle.lanes.specs.LanesLaws.{state_reads}
use Rattle.lanes.proofs.block.lane_of.Goals as goal

pub returns : goal.returns
returns c = state_reads c.args.states.now c.args.lane
