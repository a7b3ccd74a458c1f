-- The schedules, the rounds by their sums and the sum with the first states are the block in every lane.
-- Assumes nothing.
use Rattle.lanes.specs.Lanes.{state_in}
use Rattle.lanes.specs.LanesLaws.{block_in_lane}
use Rattle.lanes.proofs.block.compress8.Goals as goal

pub returns : goal.returns
returns c = (
  c.sum_all.ensures.0,
  λ j h.
      block_in_lane c.args.k.now _ _ (state_in c.args.states j) (state_in c.steps.result j) _ (c.fill.ensures j h) (c.steps.ensures j h) (c.sum_all.ensures.1 j h),
)
