use Rattle.std.proofs.Common.{ℕ, ◌*◌}
use Rattle.rounds.specs.Sums.{sums}
use Rattle.lanes.specs.Lanes.{lane}
use Rattle.lanes.specs.Passes.{Rounded}
use Rattle.lanes.proofs.block.steps.Given as goal

abbrev pub invariant-loop-i : goal.invariant-loop-i
invariant-loop-i l = Rounded (λ (x : ℕ). sums 64 l.k (lane 64 l.w x)) l.initial.t (4 * l.i) l.t
