use Rattle.std.proofs.Common.{List, ℕ, ◌+◌, ◌*◌, ◌<◌, length, ◌≡◌}
use Rattle.octets.specs.Octets.{cut}
use Rattle.heaps.specs.Heaps.{Over}
use Rattle.heaps.proofs.load.Given as goal

abbrev pub invariant-loop-y : goal.invariant-loop-y
invariant-loop-y l = (length l.heap ≡ 64 * l.leaves) × ((leaf : ℕ → List ℕ) → Over l.run l.pad leaf → (z : ℕ) → z < l.y → cut l.heap (32 * (l.leaves + z)) 32 ≡ leaf (l.from + z))
