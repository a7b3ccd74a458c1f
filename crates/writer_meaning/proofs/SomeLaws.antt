-- A test that one of a list passes: which one, and that the list's order does not matter.
-- Assumes nothing.
use Rattle.std.specs.Prelude.{◌≡◌, Bool, true, false, ◌||◌, List, [], ◌∷◌}
use Rattle.std.proofs.Math.Path.{refl, ap}
use Rattle.std.proofs.Common.{sym, ◌∙◌}
use Rattle.std.proofs.lemmas.Bool.{false≢true}
use Rattle.std.proofs.Math.Logic.{inl, inr}
use Rattle.numbers.specs.Tests.{or_one}
use Rattle.meaning.specs.Counting.{Member}
use Rattle.sorting.specs.SortedBy.{Permuted}
use Rattle.sorting.specs.PermutedLaws.{permuted_back, permuted_member}
use Rattle.writer_meaning.specs.Number.{some}

-- what is true of two tests joined
pub or_left : (a b : Bool) → a ≡ true → a || b ≡ true
or_left true b e = refl
or_left false b e = absurd (false≢true e)

pub or_right : (a b : Bool) → b ≡ true → a || b ≡ true
or_right true b e = refl
or_right false b e = e

pub or_none : (a b : Bool) → a || b ≡ false → (a ≡ false) × (b ≡ false)
or_none true b e = absurd (false≢true (sym e))
or_none false b e = (refl, e)

-- two tests that hold together are the same
pub both_ways : (a b : Bool) → (a ≡ true → b ≡ true) → (b ≡ true → a ≡ true) → a ≡ b
both_ways true b f g = sym (f refl)
both_ways false true f g = g refl
both_ways false false f g = refl

module _ {A : Type 0} (test : A → Bool) where
  pub some_there : (xs : List A) (x : A) → Member x xs → test x ≡ true → some test xs ≡ true
  unfolding some Member
  some_there [] x m e = absurd m
  some_there (y ∷ ys) x (inl p) e = or_left (test y) (some test ys) (ap test (sym p) ∙ e)
  some_there (y ∷ ys) x (inr m) e = or_right (test y) (some test ys) (some_there ys x m e)

  pub some_one : (xs : List A) → some test xs ≡ true → (x : A) × Member x xs × (test x ≡ true)
  unfolding some Member
  some_one [] e = absurd (false≢true e)
  some_one (y ∷ ys) e = elim (or_one (test y) (some test ys) e) [ inl p ↦ (y, inl refl, p) | inr q ↦ let w = some_one ys q in (w.0, inr w.1, w.2) ]

  pub none_passes : (xs : List A) (x : A) → some test xs ≡ false → Member x xs → test x ≡ false
  unfolding some Member
  none_passes [] x e m = absurd m
  none_passes (y ∷ ys) x e (inl p) = ap test p ∙ (or_none (test y) (some test ys) e).0
  none_passes (y ∷ ys) x e (inr m) = none_passes ys x (or_none (test y) (some test ys) e).1 m

  -- of two lists of which each has what the other has
  pub some_within : (xs ys : List A) → ((x : A) → Member x xs → Member x ys) → some test xs ≡ true → some test ys ≡ true
  some_within xs ys i e = let w = some_one xs e in some_there ys w.0 (i w.0 w.1) w.2

  pub some_permuted : (xs ys : List A) → Permuted xs ys → some test xs ≡ some test ys
  some_permuted xs ys p =
      both_ways (some test xs) (some test ys)
      (some_within xs ys (λ x m. permuted_member xs ys x p m))
      (some_within ys xs (λ x m. permuted_member ys xs x (permuted_back xs ys p) m))

-- one of a list that passes with another of the list
pub pair_permuted : {A : Type 0} (test : A → A → Bool) (xs ys : List A) → Permuted xs ys
    → some (λ (x : A). some (test x) xs) xs ≡ some (λ (x : A). some (test x) ys) ys
pair_permuted {A} test xs ys p =
    both_ways (some (λ (x : A). some (test x) xs) xs) (some (λ (x : A). some (test x) ys) ys) (there xs ys p) (there ys xs (permuted_back xs ys p))
  where
    there : (us vs : List A) → Permuted us vs → some (λ (x : A). some (test x) us) us ≡ true → some (λ (x : A). some (test x) vs) vs ≡ true
    there us vs q e =
        let w = some_one (λ (x : A). some (test x) us) us e in
        some_there (λ (x : A). some (test x) vs) vs w.0 (permuted_member us vs w.0 q w.1) (sym (some_permuted (test w.0) us vs q) ∙ w.2)
