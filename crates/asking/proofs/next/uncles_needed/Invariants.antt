use Rattle.std.proofs.Common.{false, ℕ, ◌≤◌, ◌<◌, ◌≡◌}
use Rattle.settling.specs.Path.{ancestor}
use Rattle.cells.specs.Cells.{held_at}
use Rattle.asking.proofs.next.uncles_needed.Given as goal

abbrev pub invariant-loop-u : goal.invariant-loop-u
invariant-loop-u l = (l.x ≡ ancestor l.u l.node) × (l.x ≤ l.node) × ((j : ℕ) → j < l.u → held_at l.store (ancestor j l.node) ≡ false)
