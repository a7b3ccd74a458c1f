-- What the common front of two strings says of them: whether they are the same, and which stands before the other.
-- Assumes nothing.
use Rattle.std.specs.Prelude.{◌≡◌, refl, Bool, true, false, cond, List, [], ◌∷◌, ℕ, zero, suc, ◌+◌, ◌*◌, ◌≤◌, ◌<◌, length, get_or, eqb, ltb}
use Rattle.std.proofs.Common.{sym, ap, ◌∙◌, subst, arith, ext_get_or, eqb-true, lt-ltb, le-ltb, ltb-false, below_more}
use Rattle.std.proofs.lemmas.Bool.{eqb-false}
use Rattle.octets.specs.Octets.{same}
use Rattle.octets.specs.OctetsLaws.{same_eq, same_ne}
use Rattle.bencode.specs.Grammar.{precedes}
use Rattle.bencode.specs.Front.{Alike, FourAlike, Front}

-- ---- a front made longer

pub alike_none : (x y : List ℕ) → Alike x y 0
alike_none x y i h = absurd (omega arith)

pub alike_one : (x y : List ℕ) (i : ℕ) → Alike x y i → get_or x i 0 ≡ get_or y i 0 → Alike x y (i + 1)
alike_one x y i a e = below_more (λ (j : ℕ). get_or x j 0 ≡ get_or y j 0) i a e

pub alike_four : (x y : List ℕ) (i : ℕ) → Alike x y i → FourAlike x y i → Alike x y (i + 4)
alike_four x y i a e =
    let b = alike_one x y (i + 1) (alike_one x y i a e.0) e.1 in
    let c = alike_one x y (i + 2) (subst (Alike x y) two b) e.2 in
    subst (Alike x y) four (alike_one x y (i + 3) (subst (Alike x y) three c) e.3)
  where
    two : i + 1 + 1 ≡ i + 2
    two = omega arith

    three : i + 2 + 1 ≡ i + 3
    three = omega arith

    four : i + 3 + 1 ≡ i + 4
    four = omega arith

-- four bytes of each, read as one word
pub four_told : (x y : List ℕ) (i a b c d e f g h : ℕ) → (a ≡ get_or x i 0) × (a < 256) → (b ≡ get_or x (i + 1) 0) × (b < 256)
    → (c ≡ get_or x (i + 2) 0) × (c < 256) → (d ≡ get_or x (i + 3) 0) × (d < 256) → (e ≡ get_or y i 0) × (e < 256)
    → (f ≡ get_or y (i + 1) 0) × (f < 256) → (g ≡ get_or y (i + 2) 0) × (g < 256) → (h ≡ get_or y (i + 3) 0) × (h < 256)
    → eqb (a * 16777216 + b * 65536 + c * 256 + d) (e * 16777216 + f * 65536 + g * 256 + h) ≡ true → FourAlike x y i
four_told x y i a b c d e f g h p q r s t u v w z =
    let k = eqb-true (a * 16777216 + b * 65536 + c * 256 + d) (e * 16777216 + f * 65536 + g * 256 + h) z in
    let first : a ≡ e = omega (arith, p.1, q.1, r.1, s.1, t.1, u.1, v.1, w.1) in
    let second : b ≡ f = omega (arith, q.1, r.1, s.1, u.1, v.1, w.1) in
    let third : c ≡ g = omega (arith, r.1, s.1, v.1, w.1) in
    let last : d ≡ h = omega (arith, s.1, w.1) in
    (sym p.0 ∙ first ∙ t.0, sym q.0 ∙ second ∙ u.0, sym r.0 ∙ third ∙ v.0, sym s.0 ∙ last ∙ w.0)

-- ---- whether they are the same

front_all : (x y : List ℕ) (n : ℕ) → Front x y n → length x ≤ n → length y ≤ n → same x y ≡ true
front_all x y n f a b =
    let u = f.in_first in
    let v = f.in_second in
    same_eq x y (ext_get_or 0 x y (omega arith) (λ i h. f.alike i (omega arith)))

pub front_short : (x y : List ℕ) (n : ℕ) → Front x y n → n < length x → same x y ≡ false
front_short x y n f a =
    same_ne x y (λ e. f.apart a (subst (λ (l : List ℕ). n < length l) e a) (ap (λ (l : List ℕ). get_or l n 0) e))

-- of strings of one length
pub front_same : (x y : List ℕ) (n : ℕ) → Front x y n → length x ≡ length y → eqb n (length x) ≡ same x y
front_same x y n f e = by_case (eqb n (length x)) refl
  where
    by_case : (t : Bool) → eqb n (length x) ≡ t → t ≡ same x y
    by_case true h = let k = eqb-true n (length x) h in sym (front_all x y n f (omega arith) (omega arith))
    by_case false h = let k = eqb-false n (length x) h in let u = f.in_first in sym (front_short x y n f (omega arith))

pub other_length : (x y : List ℕ) → (length x ≡ length y → ⊥) → false ≡ same x y
other_length x y n = sym (same_ne x y (λ e. n (ap (λ (l : List ℕ). length l) e)))

-- ---- which stands before the other

by_bytes : (a b : ℕ) (r : Bool) → (a ≡ b → ⊥) → cond (ltb a b) true (cond (ltb b a) false r) ≡ ltb a b
by_bytes a b r n = by_case (ltb a b) refl
  where
    by_case : (t : Bool) → ltb a b ≡ t → cond t true (cond (ltb b a) false r) ≡ t
    by_case true e = refl
    by_case false e = let l = ltb-false a b e in rw (lt-ltb b a (omega (arith, n))) refl

pub before_both : (x y : List ℕ) (n : ℕ) → Alike x y n → n < length x → n < length y → (get_or x n 0 ≡ get_or y n 0 → ⊥)
    → precedes x y ≡ ltb (get_or x n 0) (get_or y n 0)
unfolding precedes
before_both [] y n f a b d = absurd (omega arith)
before_both (u ∷ x) [] n f a b d = absurd (omega arith)
before_both (u ∷ x) (v ∷ y) zero f a b d = by_bytes u v (precedes x y) d
before_both (u ∷ x) (v ∷ y) (suc n) f a b d =
    let e : u ≡ v = f 0 (omega arith) in
    rw (le-ltb u v (omega arith), le-ltb v u (omega arith))
    (before_both x y n (λ i h. f (suc i) (omega arith)) (omega arith) (omega arith) d)

before_first : (x y : List ℕ) → Alike x y (length x) → length x < length y → precedes x y ≡ true
unfolding precedes
before_first [] [] f a = absurd (omega arith)
before_first [] (v ∷ y) f a = refl
before_first (u ∷ x) [] f a = absurd (omega arith)
before_first (u ∷ x) (v ∷ y) f a =
    let e : u ≡ v = f 0 (omega arith) in
    rw (le-ltb u v (omega arith), le-ltb v u (omega arith)) (before_first x y (λ i h. f (suc i) (omega arith)) (omega arith))

before_second : (x y : List ℕ) → Alike x y (length y) → length y ≤ length x → precedes x y ≡ false
unfolding precedes
before_second [] [] f a = refl
before_second [] (v ∷ y) f a = absurd (omega arith)
before_second (u ∷ x) [] f a = refl
before_second (u ∷ x) (v ∷ y) f a =
    let e : u ≡ v = f 0 (omega arith) in
    rw (le-ltb u v (omega arith), le-ltb v u (omega arith)) (before_second x y (λ i h. f (suc i) (omega arith)) (omega arith))

-- by the front
pub front_second : (x y : List ℕ) (n : ℕ) → Front x y n → length y ≤ n → false ≡ precedes x y
front_second x y n f h =
    let u = f.in_first in
    let v = f.in_second in
    sym (before_second x y (λ i l. f.alike i (omega arith)) (omega arith))

pub front_first : (x y : List ℕ) (n : ℕ) → Front x y n → n < length y → length x ≤ n → true ≡ precedes x y
front_first x y n f k h =
    let u = f.in_first in
    sym (before_first x y (λ i l. f.alike i (omega arith)) (omega arith))

pub front_both : (x y : List ℕ) (n : ℕ) → Front x y n → n < length y → n < length x → ltb (get_or x n 0) (get_or y n 0) ≡ precedes x y
front_both x y n f k h = sym (before_both x y n f.alike h k (f.apart h k))

-- ---- the front found

pub front_here : (x y : List ℕ) (n i : ℕ) → n ≤ length x → n ≤ length y → Alike x y i → i < n → (get_or x i 0 ≡ get_or y i 0 → ⊥)
    → Front x y i
front_here x y n i h k a l d = record { in_first = omega arith; in_second = omega arith; alike = a; apart = λ u v. d }

pub front_end : (x y : List ℕ) (n i : ℕ) → n ≤ length x → n ≤ length y → (n < length x → n < length y → ⊥) → Alike x y i → n ≤ i → Front x y n
front_end x y n i h k s a m = record { in_first = h; in_second = k; alike = λ j l. a j (omega arith); apart = λ u v e. s u v }
