use Rattle.std.proofs.Common.{ℕ, ◌+◌, ◌*◌}
use Rattle.octets.specs.Octets.{cut}
use Rattle.lanes.specs.Passes.{LanesPassed, Loading}
use Rattle.lanes.proofs.block.load.Given as goal

abbrev pub invariant-loop-j : goal.invariant-loop-j
invariant-loop-j l = LanesPassed 64 (Loading (λ (x : ℕ). cut l.bytes (l.at + x * l.stride) 64)) l.j l.initial.w l.w
