-- The loop's invariant: every lane has done i rounds.
-- Assumes nothing.
use Rattle.std.proofs.Common.{arith, ℕ, ◌+◌, ◌*◌, ◌≡◌, ap, ◌∙◌}
use Rattle.rounds.specs.Block.{plus}
use Rattle.lanes.specs.Lanes.{state_in}
use Rattle.lanes.specs.LanesLaws.{rounded_none, rounded_on, rounded_last}
use Rattle.lanes.proofs.block.compress_sums8.Goals as goal

pub loop-i-init : goal.loop-i-init
loop-i-init c = rounded_none (λ (j : ℕ). c.args.sums.now) _ c.well_formed.0.1.0.1

pub known_all-requires : goal.known_all-requires
known_all-requires c = (omega arith, c.loop-i.invariant.size)

pub loop-i-preserved : goal.loop-i-preserved
loop-i-preserved c = let e : 4 * (c.loop-i.i + 1) ≡ 4 * c.loop-i.i + 4 = omega arith in
    rw e (rounded_on (λ (j : ℕ). c.args.sums.now) _ (4 * c.loop-i.i) c.loop-i.t _ c.loop-i.invariant c.known_all.ensures)

pub returns : goal.returns
returns c = (
  c.sum_all.ensures.0,
  λ j h.
      c.sum_all.ensures.1 j h
      ∙ ap (plus (state_in c.args.states j)) (rounded_last (λ (j : ℕ). c.args.sums.now) _ (4 * c.loop-i.i) c.loop-i.t (omega arith) c.loop-i.invariant j h),
)
