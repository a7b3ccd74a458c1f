-- How many numbers below n pass a test.
-- Assumes nothing.
use Rattle.std.specs.Prelude.{◌≡◌, refl, Bool, true, false, ℕ, zero, suc, ◌+◌, ◌≤◌, ◌<◌}
use Rattle.std.proofs.Common.{sym, inl, inr, arith}
use Rattle.std.proofs.lemmas.Bool.{false≢true}
use Rattle.cells.specs.CellsLaws.{lt_or_ge}
use Rattle.cells.specs.Entries.{one_if}
use Rattle.marks.specs.MarksLaws.{one_small}
use Rattle.words.specs.Asking.{count_below}

-- n at most do
pub count_most : (f : ℕ → Bool) (n : ℕ) → count_below f n ≤ n
unfolding count_below
count_most f zero = omega arith
count_most f (suc n) = omega (arith, count_most f n, one_small (f n))

one_less : (a b : Bool) → (b ≡ true → a ≡ true) → one_if b ≤ one_if a
one_less true true f = omega arith
one_less true false f = omega arith
one_less false true f = absurd (false≢true (f refl))
one_less false false f = omega arith

-- no more pass a test that asks for more,
pub count_fewer : (f g : ℕ → Bool) (n : ℕ) → ((j : ℕ) → j < n → g j ≡ true → f j ≡ true) → count_below g n ≤ count_below f n
unfolding count_below
count_fewer f g zero k = omega arith
count_fewer f g (suc n) k = omega (arith, count_fewer f g n (λ j l. k j (omega arith)), one_less (f n) (g n) (k n (omega arith)))

one_lost : (a b : Bool) → a ≡ true → b ≡ false → one_if b + 1 ≤ one_if a
one_lost true true p q = absurd (false≢true (sym q))
one_lost true false p q = omega arith
one_lost false b p q = absurd (false≢true p)

-- and fewer where one number no longer passes
pub count_less : (f g : ℕ → Bool) (n i : ℕ) → ((j : ℕ) → j < n → g j ≡ true → f j ≡ true) → i < n → f i ≡ true → g i ≡ false → count_below g n + 1 ≤ count_below f n
unfolding count_below
count_less f g zero i k l p q = let w : ⊥ = omega arith in absurd w
count_less f g (suc n) i k l p q =
    elim (lt_or_ge i n) [
      | inl a ↦ omega (arith, count_less f g n i (λ j b. k j (omega arith)) a p q, one_less (f n) (g n) (k n (omega arith)))
      | inr a ↦
          let e : i ≡ n = omega arith in
          omega (arith, count_fewer f g n (λ j b. k j (omega arith)), one_lost (f n) (g n) (rw e at p) (rw e at q))
    ]

-- where one passes some do
pub count_some : (f : ℕ → Bool) (n i : ℕ) → i < n → f i ≡ true → 1 ≤ count_below f n
unfolding count_below
count_some f zero i l p = let w : ⊥ = omega arith in absurd w
count_some f (suc n) i l p =
    elim (lt_or_ge i n) [
      | inl a ↦ omega (arith, count_some f n i a p)
      | inr a ↦ (let e : i ≡ n = omega arith in omega (arith, one_lost (f n) false (rw e at p) refl))
    ]
