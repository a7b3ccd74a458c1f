use Rattle.std.proofs.Common.{true, ℕ, ◌+◌, ◌<◌, ◌≡◌}
use Rattle.cells.specs.Cells.{held_at}
use Rattle.asking.proofs.next.held_front.Given as goal

abbrev pub invariant-loop-i : goal.invariant-loop-i
invariant-loop-i l = ((j : ℕ) → j < l.i → held_at l.store (l.node + j) ≡ true)
