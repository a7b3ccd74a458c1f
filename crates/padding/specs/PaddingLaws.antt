-- Laws of the padding: what it is for, and its length by cases.
-- Assumes nothing.
use Rattle.std.specs.Prelude.{◌≡◌, ℕ, ◌+◌, ◌-◌, ◌%◌, ◌<◌, ◌≤◌, length}
use Rattle.std.proofs.Common.{arith, length-append}
use Rattle.std.proofs.lemmas.List.{length-replicate}
use Rattle.padding.specs.Padding.{zeros, padding}

pub length_padding : (n : ℕ) → length (padding n) ≡ zeros n + 9
unfolding padding
length_padding n = simp (length-append, length-replicate) (omega arith)

-- the last bytes of a message leave room for the count in their block, or do not
pub zeros_short : (r n : ℕ) → r ≡ n % 64 → r < 56 → zeros n ≡ 56 - 1 - r
unfolding zeros
zeros_short r n e h = omega arith

pub zeros_long : (r n : ℕ) → r ≡ n % 64 → 56 ≤ r → zeros n ≡ 120 - 1 - r
unfolding zeros
zeros_long r n e h = omega arith
