use Rattle.std.proofs.Common.{ℕ, ◌+◌, ◌<◌, ◌%◌, ◌^◌, length, get_or, ◌≡◌}
use Rattle.lanes.proofs.block.sum_all.Given as goal

abbrev pub invariant-loop-i : goal.invariant-loop-i
invariant-loop-i l = (length l.r ≡ 64) × ((x : ℕ) → x < l.i → get_or l.r x 0 ≡ (get_or l.st x 0 + get_or l.t x 0) % 2 ^ 32)
