-- Laws of the numbers given back, for callers to cite.
-- Assumes nothing.
use Rattle.std.specs.Prelude.{◌≡◌, refl, Bool, true, false, cond, ℕ}
use Rattle.numbers.specs.Numbers.{judged}
use Rattle.numbers.specs.Chain.{verdict, exactly}

-- a test that let the rest decide
pub let_through : (t : Bool) (a n : ℕ) → (n ≡ 0 → ⊥) → cond t a n ≡ 0 → (t ≡ true) × (a ≡ 0)
let_through true a n f e = (refl, e)
let_through false a n f e = absurd (f e)

-- judged 0: all three tests are passed
pub judged_zero : (a b c : Bool) → judged a b c ≡ 0 → (a ≡ true) × (b ≡ true) × (c ≡ true)
judged_zero a b c e = let t = (exactly (verdict a b c) 0 refl).0 e in (t.0, t.1.0, t.1.1.0)
