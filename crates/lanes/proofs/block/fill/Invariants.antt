use Rattle.std.proofs.Common.{ℕ, ◌+◌, ◌*◌}
use Rattle.octets.specs.Octets.{cut}
use Rattle.lanes.specs.Passes.{Grown}
use Rattle.lanes.proofs.block.fill.Given as goal

abbrev pub invariant-loop-i : goal.invariant-loop-i
invariant-loop-i l = Grown (λ (x : ℕ). cut l.bytes (l.at + x * l.stride) 64) (4 * l.i) l.w
