-- The loop's invariant: the lanes below j are four rounds further, the others as they were.
-- Assumes nothing.
use Rattle.std.proofs.Common.{arith, ℕ, ◌+◌, ◌≡◌, ◌∙◌}
use Rattle.rounds.specs.Sums.{sums}
use Rattle.lanes.specs.Lanes.{lane}
use Rattle.lanes.specs.LanesLaws.{passed_none, rounding_more}
use Rattle.lanes.proofs.block.step_all.Goals as goal

pub loop-j-init : goal.loop-j-init
loop-j-init c = (passed_none 8 _ _)

pub step4-requires : goal.step4-requires
step4-requires c = (c.requires.0, omega arith, c.loop-j.invariant.size ∙ c.requires.1)

pub loop-j-preserved : goal.loop-j-preserved
loop-j-preserved c = let a = c.args in (rounding_more (λ (x : ℕ). sums 64 a.k.now (lane 64 a.w.now x)) a.i (a.i + 4) c.loop-j.j _ c.loop-j.t _ (omega arith) c.loop-j.invariant c.step4.ensures.1 c.step4.ensures.0
    )

pub returns : goal.returns
returns c = let e : c.loop-j.j ≡ 8 = omega arith in rw e at c.loop-j.invariant
