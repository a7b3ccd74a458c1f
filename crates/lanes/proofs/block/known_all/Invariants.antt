use Rattle.std.proofs.Common.{ℕ, ◌+◌}
use Rattle.lanes.specs.Passes.{LanesPassed, Rounding}
use Rattle.lanes.proofs.block.known_all.Given as goal

abbrev pub invariant-loop-j : goal.invariant-loop-j
invariant-loop-j l = LanesPassed 8 (Rounding (λ (y : ℕ). l.x) l.i (l.i + 4)) l.j l.initial.t l.t
