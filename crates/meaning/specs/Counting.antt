-- Lists without repetition: one inside another has at most as many members, and as many only if each is inside the other.
-- Assumes nothing.
use Rattle.std.specs.Prelude.{◌≡◌, ◌⊎◌, length, List, [], ◌∷◌, suc, ◌≤◌}
use Rattle.std.proofs.Math.Path.{refl, sym, ap}
use Rattle.std.proofs.Common.{◌∙◌, arith}
use Rattle.std.proofs.Math.Logic.{inl, inr}

module _ {A : Type 0} where
  -- x is one of the list
  unfoldable pub Member : A → List A → Type 0
  Member x [] = ⊥
  Member x (y ∷ ys) = (x ≡ y) ⊎ Member x ys

  -- no two of the list are the same
  unfoldable pub Distinct : List A → Type 0
  Distinct [] = Unit {0}
  Distinct (x ∷ xs) = (Member x xs → ⊥) × Distinct xs

  -- each of xs is one of ys
  abbrev pub Contained : List A → List A → Type 0
  Contained xs ys = (x : A) → Member x xs → Member x ys

  -- a list without one of its members: one shorter, and all others are there
  abbrev Without : A → List A → Type 0
  Without x ys = (zs : List A) × (length ys ≡ suc (length zs)) × ((y : A) → Member y ys → (y ≡ x → ⊥) → Member y zs)

  without : (x : A) (ys : List A) → Member x ys → Without x ys
  unfolding Member
  without x [] m = absurd m
  without x (y ∷ ys) (inl e) = (ys, refl, λ z m n. elim m [ inl q ↦ absurd (n (q ∙ sym e)) | inr q ↦ q ])
  without x (y ∷ ys) (inr m) =
      let w = without x ys m in
      (y ∷ w.0, ap suc w.1, λ z k n. elim k [ inl q ↦ inl q | inr q ↦ inr (w.2 z q n) ])

  -- a list without repetition that is inside another is not longer
  pub contained_fewer : (xs ys : List A) → Distinct xs → Contained xs ys → length xs ≤ length ys
  unfolding Member Distinct
  contained_fewer [] ys d i = omega arith
  contained_fewer (x ∷ xs) ys d i =
      let w = without x ys (i x (inl refl)) in
      let fewer = contained_fewer xs w.0 d.1 (λ z m. w.2 z (i z (inr m)) (λ e. d.0 (rw e at m))) in
      omega (arith, w.1)

  -- if it is as long, no member of the other is outside it
  pub contained_all : (xs ys : List A) → Distinct xs → Contained xs ys → length ys ≤ length xs → (y : A) → Member y ys → (Member y xs → ⊥) → ⊥
  unfolding Member Distinct
  contained_all xs ys d i h y m n =
      let more = contained_fewer (y ∷ xs) ys (n, d) (λ z k. elim k [ inl e ↦ rw e m | inr q ↦ i z q ]) in
      omega arith
