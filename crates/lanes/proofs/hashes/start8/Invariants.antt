use Rattle.std.proofs.Common.{List, ℕ, ◌≡◌}
use Rattle.lanes.specs.Lanes.{state_of}
use Rattle.lanes.specs.Passes.{LanesPassed}
use Rattle.lanes.proofs.hashes.start8.Given as goal

abbrev pub invariant-loop-j : goal.invariant-loop-j
invariant-loop-j v = LanesPassed 8 (λ (x : ℕ) (l k : List ℕ). state_of k ≡ v.z) v.j v.initial.t v.t
