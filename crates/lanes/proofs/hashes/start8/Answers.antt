-- The loop's invariant: the lanes below j have the start words.
-- Assumes nothing.
use Rattle.std.proofs.Common.{List, arith, ℕ, ◌≡◌, ◌∙◌}
use Rattle.lanes.specs.LanesLaws.{passed_none, passed_more}
use Rattle.lanes.specs.Lanes.{state_in, state_of}
use Rattle.lanes.proofs.hashes.start8.Goals as goal

pub loop-j-init : goal.loop-j-init
loop-j-init c = passed_none 8 _ _

pub put_lane-requires : goal.put_lane-requires
put_lane-requires c = (omega arith, c.loop-j.invariant.size)

pub loop-j-preserved : goal.loop-j-preserved
unfolding state_in
loop-j-preserved c = passed_more 8 (λ (x : ℕ) (l k : List ℕ). state_of k ≡ c.start-z.result) c.loop-j.j _ c.loop-j.t _ (omega arith) c.loop-j.invariant c.put_lane.ensures.1 c.put_lane.ensures.0

pub returns : goal.returns
unfolding state_in
returns c = (c.loop-j.invariant.size, λ x h. c.loop-j.invariant.done x (omega arith) ∙ c.start-z.ensures)
