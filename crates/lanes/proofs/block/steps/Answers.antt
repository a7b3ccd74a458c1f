-- The loop's invariant: every lane has done i rounds.
-- Assumes nothing.
use Rattle.std.proofs.Common.{arith, ℕ, ◌+◌, ◌*◌, ◌≡◌}
use Rattle.rounds.specs.Sums.{sums}
use Rattle.lanes.specs.Lanes.{lane}
use Rattle.lanes.specs.LanesLaws.{rounded_none, rounded_on, rounded_last}
use Rattle.lanes.proofs.block.steps.Goals as goal

pub loop-i-init : goal.loop-i-init
loop-i-init c = rounded_none (λ (x : ℕ). sums 64 c.args.k.now (lane 64 c.args.w.now x)) _ c.well_formed.0.1.0.1

pub step_all-requires : goal.step_all-requires
step_all-requires c = (omega arith, c.loop-i.invariant.size)

pub loop-i-preserved : goal.loop-i-preserved
loop-i-preserved c = let e : 4 * (c.loop-i.i + 1) ≡ 4 * c.loop-i.i + 4 = omega arith in
    rw e (rounded_on (λ (x : ℕ). sums 64 c.args.k.now (lane 64 c.args.w.now x)) _ (4 * c.loop-i.i) c.loop-i.t _ c.loop-i.invariant c.step_all.ensures)

pub returns : goal.returns
returns c = rounded_last (λ (x : ℕ). sums 64 c.args.k.now (lane 64 c.args.w.now x)) _ (4 * c.loop-i.i) c.loop-i.t (omega arith) c.loop-i.invariant
