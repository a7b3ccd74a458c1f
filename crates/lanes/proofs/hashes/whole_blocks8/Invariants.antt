use Rattle.std.proofs.Common.{ℕ, ◌*◌, ◌<◌, length, ◌≡◌}
use Rattle.rounds.specs.Block.{compress}
use Rattle.padding.specs.Cutting.{over_blocks}
use Rattle.octets.specs.Octets.{cut}
use Rattle.lanes.specs.Lanes.{state_in}
use Rattle.lanes.proofs.hashes.whole_blocks8.Given as goal

abbrev pub invariant-loop-i : goal.invariant-loop-i
invariant-loop-i l = (length l.t ≡ 64) × ((x : ℕ) → x < 8 → state_in l.t x ≡ over_blocks (compress l.k) l.i (state_in l.initial.t x) (cut l.bytes (x * l.n) l.n))
