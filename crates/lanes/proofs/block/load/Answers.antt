-- The loop's invariant: the lanes below j have their block's sixteen words.
-- Assumes nothing.
use Rattle.std.proofs.Common.{arith, ℕ, ◌+◌, ◌*◌, ◌≡◌, ◌∙◌}
use Rattle.lanes.specs.LanesLaws.{reach, passed_none, passed_more}
use Rattle.octets.specs.Octets.{cut}
use Rattle.lanes.specs.Passes.{Loading}
use Rattle.lanes.proofs.block.load.Goals as goal

pub loop-j-init : goal.loop-j-init
loop-j-init c = (passed_none 64 _ _)

pub overflow_mul-j : goal.overflow_mul-j
overflow_mul-j c = omega (arith, reach c.loop-j.j c.args.stride (omega arith))

pub overflow_add-at : goal.overflow_add-at
overflow_add-at c = omega (arith, reach c.loop-j.j c.args.stride (omega arith))

pub load_lane-requires : goal.load_lane-requires
load_lane-requires c = (omega arith, omega (arith, reach c.loop-j.j c.args.stride (omega arith)), c.loop-j.invariant.size ∙ c.requires.1)

pub loop-j-preserved : goal.loop-j-preserved
unfolding Loading
loop-j-preserved c = let a = c.args in (passed_more 64 (Loading (λ (x : ℕ). cut a.bytes.now (a.at + x * a.stride) 64)) c.loop-j.j _ c.loop-j.w _ (omega arith) c.loop-j.invariant c.load_lane.ensures.1 c.load_lane.ensures.0
    )

pub returns : goal.returns
returns c = let e : c.loop-j.j ≡ 8 = omega arith in rw e at c.loop-j.invariant
