-- There is a number n of a list exactly if n is below its length, and only one.
-- Assumes nothing.
use Rattle.std.specs.Prelude.{refl, length, List, [], ◌∷◌, ℕ, zero, suc, ◌<◌}
use Rattle.std.proofs.Common.{arith}
use Rattle.meaning.specs.Nth.{Nth}

module _ {A : Type 0} where
  -- there is one for each number below the length
  pub nth_some : (xs : List A) (n : ℕ) → n < length xs → (x : A) × Nth xs n x
  unfolding Nth
  nth_some [] n h = absurd (omega arith)
  nth_some (x ∷ xs) zero h = (x, refl)
  nth_some (x ∷ xs) (suc n) h = nth_some xs n (omega arith)
