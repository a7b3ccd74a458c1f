use Rattle.std.proofs.Common.{ℕ, ◌*◌}
use Rattle.lanes.specs.Passes.{Rounded}
use Rattle.lanes.proofs.block.compress_sums8.Given as goal

abbrev pub invariant-loop-i : goal.invariant-loop-i
invariant-loop-i l = Rounded (λ (j : ℕ). l.sums) l.states (4 * l.i) l.t
