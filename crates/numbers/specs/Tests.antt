-- What a test says, and how what is said of tests is said of what they test. For the numbers that a chain of tests decides.
-- Assumes nothing.
use Rattle.std.specs.Prelude.{◌≡◌, refl, Bool, true, false, ◌||◌, ◌⊎◌, ◌↔◌, ℕ, eqb}
use Rattle.std.proofs.Common.{sym, ◌∙◌, inl, inr, eq-eqb}
use Rattle.std.proofs.lemmas.Bool.{false≢true}

-- a test comes out one way or the other, never both
pub either : (b : Bool) → (b ≡ true) ⊎ (b ≡ false)
either true = inl refl
either false = inr refl

pub not_both : {b : Bool} → b ≡ true → b ≡ false → ⊥
not_both t f = false≢true (sym f ∙ t)

-- where one of two passes, the first does or the second
pub or_one : (a b : Bool) → a || b ≡ true → (a ≡ true) ⊎ (b ≡ true)
or_one true b e = inl refl
or_one false b e = inr e

-- where a test says this, its failure says not
pub says_not : {b : Bool} {A : Type 0} → (b ≡ true) ↔ A → (b ≡ false) ↔ (A → ⊥)
says_not {b} p = (
  λ f a. not_both (p.1 a) f,
  λ n. elim (either b) [ inl t ↦ absurd (n (p.0 t)) | inr f ↦ f ],
)

pub eqb_no : (a b : ℕ) → eqb a b ≡ false → a ≡ b → ⊥
eqb_no a b f e = not_both (eq-eqb a b e) f

-- where F lets B decide, and B says C, F lets C decide
pub through : {A F B C : Type 0} → A ↔ (F × B) → ((f : F) → B ↔ C) → A ↔ (F × C)
through p q = (λ a. let x = p.0 a in (x.0, (q x.0).0 x.1), λ y. p.1 (y.0, (q y.0).1 y.1))

pub in_turn : {A B C : Type 0} → A ↔ B → B ↔ C → A ↔ C
in_turn p q = (λ a. q.0 (p.0 a), λ c. p.1 (q.1 c))

pub both : {A B C D : Type 0} → A ↔ B → C ↔ D → (A × C) ↔ (B × D)
both p q = (λ x. (p.0 x.0, q.0 x.1), λ y. (p.1 y.0, q.1 y.1))

-- A × (B × C) ↔ (A × D) × C, where B says D
pub grouped : {A B C D : Type 0} → B ↔ D → (A × (B × C)) ↔ ((A × D) × C)
grouped p = (λ x. ((x.0, p.0 x.1.0), x.1.1), λ y. (y.0.0, (p.1 y.0.1, y.1)))

-- the last number is given where the tests pass, and nothing more is said
pub alone : {A B : Type 0} {n : ℕ} → A ↔ B → (A × (n ≡ n)) ↔ B
alone p = (λ x. p.0 x.0, λ b. (p.1 b, refl))
