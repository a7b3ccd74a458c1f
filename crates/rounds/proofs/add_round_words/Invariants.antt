use Rattle.std.proofs.Common.{ℕ, ◌≤◌, length, get_or, take, ◌≡◌}
use Rattle.rounds.specs.Sums.{sums}
use Rattle.rounds.proofs.add_round_words.Given as goal

abbrev pub invariant-loop-i : goal.invariant-loop-i
invariant-loop-i l = (length l.w ≡ 64) × (take l.i l.w ≡ sums l.i l.k l.initial.w) × ((j : ℕ) → l.i ≤ j → get_or l.w j 0 ≡ get_or l.initial.w j 0)
