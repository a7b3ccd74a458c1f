use Rattle.std.proofs.Common.{ℕ, ◌+◌}
use Rattle.rounds.specs.Sums.{sums}
use Rattle.lanes.specs.Lanes.{lane}
use Rattle.lanes.specs.Passes.{LanesPassed, Rounding}
use Rattle.lanes.proofs.block.step_all.Given as goal

abbrev pub invariant-loop-j : goal.invariant-loop-j
invariant-loop-j l = LanesPassed 8 (Rounding (λ (x : ℕ). sums 64 l.k (lane 64 l.w x)) l.i (l.i + 4)) l.j l.initial.t l.t
