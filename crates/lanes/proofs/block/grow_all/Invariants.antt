use Rattle.std.proofs.Common.{ℕ, ◌+◌}
use Rattle.lanes.specs.Passes.{LanesPassed, Growing}
use Rattle.lanes.proofs.block.grow_all.Given as goal

abbrev pub invariant-loop-j : goal.invariant-loop-j
invariant-loop-j l = LanesPassed 64 (λ (x : ℕ). Growing l.i (l.i + 4)) l.j l.initial.w l.w
