-- The order of strings, bencoding's `precedes`: no string stands before itself, it is transitive, and of two different strings one stands before the other.
-- Assumes nothing.
use Rattle.std.specs.Prelude.{◌≡◌, refl, Bool, true, false, List, [], ◌∷◌, ℕ, ◌<◌, ◌≤◌, ltb}
use Rattle.std.proofs.Common.{sym, ap, ap₂, ◌∙◌, arith, ltb-true, ltb-false, lt-ltb, le-ltb}
use Rattle.std.proofs.lemmas.Bool.{false≢true}
use Rattle.bencode.specs.Grammar.{precedes}

pub precedes_self : (x : List ℕ) → precedes x x ≡ false
unfolding precedes
precedes_self [] = refl
precedes_self (a ∷ x) = simp (le-ltb a a (omega arith)) (precedes_self x)

-- what makes one list stand before another: a smaller first number, or the same one and an order of the rest
precedes_less : (a b : ℕ) (x y : List ℕ) → a < b → precedes (a ∷ x) (b ∷ y) ≡ true
unfolding precedes
precedes_less a b x y h = simp (lt-ltb a b h)

precedes_more : (a b : ℕ) (x y : List ℕ) → b < a → precedes (a ∷ x) (b ∷ y) ≡ false
unfolding precedes
precedes_more a b x y h = let g : b ≤ a = omega arith in simp (le-ltb a b g, lt-ltb b a h)

precedes_same : (a b : ℕ) (x y : List ℕ) → a ≡ b → precedes (a ∷ x) (b ∷ y) ≡ precedes x y
unfolding precedes
precedes_same a b x y e = let g : b ≤ a = omega arith in let h : a ≤ b = omega arith in simp (le-ltb a b g, le-ltb b a h)

data Compared (a b : ℕ) : Type 0 where
  less : a < b → Compared a b
  equal : a ≡ b → Compared a b
  greater : b < a → Compared a b

compared : (a b : ℕ) → Compared a b
compared a b = by_less (ltb a b) refl
  where
    by_greater : (t : Bool) → ltb b a ≡ t → b ≤ a → Compared a b
    by_greater true e h = greater (ltb-true b a e)
    by_greater false e h = let g = ltb-false b a e in equal (omega arith)

    by_less : (t : Bool) → ltb a b ≡ t → Compared a b
    by_less true e = less (ltb-true a b e)
    by_less false e = by_greater (ltb b a) refl (ltb-false a b e)

trans_heads : (a b d : ℕ) (x y z : List ℕ) → (precedes x y ≡ true → precedes y z ≡ true → precedes x z ≡ true) → Compared a b → Compared b d
    → precedes (a ∷ x) (b ∷ y) ≡ true → precedes (b ∷ y) (d ∷ z) ≡ true → precedes (a ∷ x) (d ∷ z) ≡ true
trans_heads a b d x y z more (greater h) w p q = absurd (false≢true (sym (precedes_more a b x y h) ∙ p))
trans_heads a b d x y z more (less h) (greater g) p q = absurd (false≢true (sym (precedes_more b d y z g) ∙ q))
trans_heads a b d x y z more (equal h) (greater g) p q = absurd (false≢true (sym (precedes_more b d y z g) ∙ q))
trans_heads a b d x y z more (less h) (less g) p q = precedes_less a d x z (omega arith)
trans_heads a b d x y z more (less h) (equal g) p q = precedes_less a d x z (omega arith)
trans_heads a b d x y z more (equal h) (less g) p q = precedes_less a d x z (omega arith)
trans_heads a b d x y z more (equal h) (equal g) p q =
    precedes_same a d x z (h ∙ g) ∙ more (sym (precedes_same a b x y h) ∙ p) (sym (precedes_same b d y z g) ∙ q)

pub precedes_trans : (x y z : List ℕ) → precedes x y ≡ true → precedes y z ≡ true → precedes x z ≡ true
unfolding precedes
precedes_trans [] [] z p q = absurd (false≢true p)
precedes_trans [] (b ∷ y) [] p q = absurd (false≢true q)
precedes_trans [] (b ∷ y) (d ∷ z) p q = refl
precedes_trans (a ∷ x) [] z p q = absurd (false≢true p)
precedes_trans (a ∷ x) (b ∷ y) [] p q = absurd (false≢true q)
precedes_trans (a ∷ x) (b ∷ y) (d ∷ z) p q = trans_heads a b d x y z (precedes_trans x y z) (compared a b) (compared b d) p q

either_heads : (a b : ℕ) (x y : List ℕ) → (precedes x y ≡ false → precedes y x ≡ false → x ≡ y) → Compared a b
    → precedes (a ∷ x) (b ∷ y) ≡ false → precedes (b ∷ y) (a ∷ x) ≡ false → ◌≡◌ {A = List ℕ} (a ∷ x) (b ∷ y)
either_heads a b x y more (less h) p q = absurd (false≢true (sym p ∙ precedes_less a b x y h))
either_heads a b x y more (greater h) p q = absurd (false≢true (sym q ∙ precedes_less b a y x h))
either_heads a b x y more (equal h) p q =
    ap₂ (λ (c : ℕ) (l : List ℕ). c ∷ l) h (more (sym (precedes_same a b x y h) ∙ p) (sym (precedes_same b a y x (sym h)) ∙ q))

pub precedes_either : (x y : List ℕ) → precedes x y ≡ false → precedes y x ≡ false → x ≡ y
unfolding precedes
precedes_either [] [] p q = refl
precedes_either [] (b ∷ y) p q = absurd (false≢true (sym p))
precedes_either (a ∷ x) [] p q = absurd (false≢true (sym q))
precedes_either (a ∷ x) (b ∷ y) p q = either_heads a b x y (precedes_either x y) (compared a b) p q

-- a string that stands before another is not it
pub precedes_differ : (x y : List ℕ) → precedes x y ≡ true → x ≡ y → ⊥
precedes_differ x y p e = false≢true (sym (precedes_self x) ∙ ap (precedes x) e ∙ p)

-- and does not stand behind it
pub precedes_one_way : (x y : List ℕ) → precedes x y ≡ true → precedes y x ≡ false
precedes_one_way x y p = by_case (precedes y x) refl
  where
    by_case : (t : Bool) → precedes y x ≡ t → t ≡ false
    by_case true q = absurd (false≢true (sym (precedes_self x) ∙ precedes_trans x y x p q))
    by_case false q = refl

-- what does not stand behind is transitive too
pub behind_trans : (x y z : List ℕ) → precedes y x ≡ false → precedes z y ≡ false → precedes z x ≡ false
behind_trans x y z p q = by_case (precedes z x) refl (precedes y z) refl
  where
    by_case : (t : Bool) → precedes z x ≡ t → (u : Bool) → precedes y z ≡ u → t ≡ false
    by_case false e u f = refl
    by_case true e true f = absurd (false≢true (sym p ∙ precedes_trans y z x f e))
    by_case true e false f = absurd (false≢true (sym p ∙ ap (λ (l : List ℕ). precedes l x) (precedes_either y z f q) ∙ e))
