-- Tree order and the order of layers: no two stand before each other, what does not stand before is transitive, and of two different
-- ones one stands before the other.
-- Assumes nothing.
use Rattle.std.specs.Prelude.{◌≡◌, Bool, true, false, cond, ◌⊎◌, List, [], ◌∷◌, ℕ}
use Rattle.std.proofs.Math.Path.{refl}
use Rattle.std.proofs.Common.{sym, ap, ap₂, ◌∙◌, inl, inr}
use Rattle.std.proofs.lemmas.Bool.{false≢true}
use Rattle.octets.specs.Octets.{same}
use Rattle.octets.specs.OctetsLaws.{same_true, same_refl, same_false, same_ne}
use Rattle.bencode.specs.Grammar.{precedes}
use Rattle.sorting.specs.PrecedesLaws.{precedes_either, precedes_one_way, behind_trans}
use Rattle.writer_meaning.specs.Content.{path_before, Layer, layer_before}

-- two strings, the same or not
abbrev Told : List ℕ → List ℕ → Type 0
Told e f = (e ≡ f) ⊎ (same e f ≡ false)

told : (e f : List ℕ) → Told e f
told e f = by_case (same e f) refl
  where
    by_case : (t : Bool) → same e f ≡ t → Told e f
    by_case true q = inl (same_true e f q)
    by_case false q = inr q

same_back : (e f : List ℕ) → same e f ≡ false → same f e ≡ false
same_back e f d = same_ne f e (λ p. same_false e f d (sym p))

-- an order by a first string, and by something else where that is the same
module _ {A : Type 0} (below : A → A → Bool) where
  unfoldable pub first_by : List ℕ → A → List ℕ → A → Bool
  first_by e x f y = cond (same e f) (below x y) (precedes e f)

  within : (e : List ℕ) (x y : A) → first_by e x e y ≡ below x y
  unfolding first_by
  within e x y = rw (same_refl e) refl

  apart : (e f : List ℕ) (x y : A) → same e f ≡ false → first_by e x f y ≡ precedes e f
  unfolding first_by
  apart e f x y d = rw d refl

  first_either : (e f : List ℕ) (x y : A) → (below x y ≡ false → below y x ≡ false → x ≡ y) → first_by e x f y ≡ false → first_by f y e x ≡ false → (e ≡ f) × (x ≡ y)
  first_either e f x y more p q = by_case (told e f)
    where
      by_case : Told e f → (e ≡ f) × (x ≡ y)
      by_case (inl s) = (s, more (sym (within e x y) ∙ ap (λ (l : List ℕ). first_by e x l y) s ∙ p) (sym (within e y x) ∙ ap (λ (l : List ℕ). first_by l y e x) s ∙ q))
      by_case (inr d) = absurd (same_false e f d (precedes_either e f (sym (apart e f x y d) ∙ p) (sym (apart f e y x (same_back e f d)) ∙ q)))

  first_one_way : (e f : List ℕ) (x y : A) → (below x y ≡ true → below y x ≡ false) → first_by e x f y ≡ true → first_by f y e x ≡ false
  first_one_way e f x y more p = by_case (told e f)
    where
      by_case : Told e f → first_by f y e x ≡ false
      by_case (inl s) = ap (λ (l : List ℕ). first_by l y e x) (sym s) ∙ within e y x ∙ more (sym (within e x y) ∙ ap (λ (l : List ℕ). first_by e x l y) s ∙ p)
      by_case (inr d) = apart f e y x (same_back e f d) ∙ precedes_one_way e f (sym (apart e f x y d) ∙ p)

  first_behind : (e f g : List ℕ) (x y z : A) → (below y x ≡ false → below z y ≡ false → below z x ≡ false) → first_by f y e x ≡ false → first_by g z f y ≡ false → first_by g z e x ≡ false
  first_behind e f g x y z more p q = by_case (told f e) (told g f)
    where
      by_case : Told f e → Told g f → first_by g z e x ≡ false
      by_case (inl s) (inl t) =
          ap (λ (l : List ℕ). first_by g z l x) (sym (t ∙ s)) ∙ within g z x
          ∙ more (sym (within f y x) ∙ ap (λ (l : List ℕ). first_by f y l x) s ∙ p) (sym (within g z y) ∙ ap (λ (l : List ℕ). first_by g z l y) t ∙ q)
      by_case (inl s) (inr d) = ap (λ (l : List ℕ). first_by g z l x) (sym s) ∙ apart g f z x d ∙ sym (apart g f z y d) ∙ q
      by_case (inr d) (inl t) = ap (λ (l : List ℕ). first_by l z e x) t ∙ apart f e z x d ∙ sym (apart f e y x d) ∙ p
      by_case (inr d) (inr c) = by_ends (told g e)
        where
          a : precedes f e ≡ false
          a = sym (apart f e y x d) ∙ p

          b : precedes g f ≡ false
          b = sym (apart g f z y c) ∙ q

          by_ends : Told g e → first_by g z e x ≡ false
          by_ends (inl s) = absurd (same_false f e d (precedes_either f e a (ap (λ (l : List ℕ). precedes l f) (sym s) ∙ b)))
          by_ends (inr w) = apart g e z x w ∙ behind_trans e f g a b

-- ---- tree order

pub path_either : (p q : List (List ℕ)) → path_before p q ≡ false → path_before q p ≡ false → p ≡ q
unfolding path_before first_by
path_either [] [] a b = refl
path_either [] (f ∷ q) a b = absurd (false≢true (sym a))
path_either (e ∷ p) [] a b = absurd (false≢true (sym b))
path_either (e ∷ p) (f ∷ q) a b = let r = first_either path_before e f p q (path_either p q) a b in ap₂ (λ (x : List ℕ) (l : List (List ℕ)). x ∷ l) r.0 r.1

pub path_one_way : (p q : List (List ℕ)) → path_before p q ≡ true → path_before q p ≡ false
unfolding path_before first_by
path_one_way [] [] a = refl
path_one_way [] (f ∷ q) a = refl
path_one_way (e ∷ p) [] a = absurd (false≢true a)
path_one_way (e ∷ p) (f ∷ q) a = first_one_way path_before e f p q (path_one_way p q) a

pub path_behind : (p q r : List (List ℕ)) → path_before q p ≡ false → path_before r q ≡ false → path_before r p ≡ false
unfolding path_before first_by
path_behind [] q [] a b = refl
path_behind [] q (g ∷ r) a b = refl
path_behind (e ∷ p) [] r a b = absurd (false≢true (sym a))
path_behind (e ∷ p) (f ∷ q) [] a b = absurd (false≢true (sym b))
path_behind (e ∷ p) (f ∷ q) (g ∷ r) a b = first_behind path_before e f g p q r (path_behind p q r) a b

-- ---- layers by root, then by their bytes

pub layer_either : (l m : Layer) → layer_before l m ≡ false → layer_before m l ≡ false → l ≡ m
unfolding first_by
layer_either l m a b = let r = first_either precedes l.0 m.0 l.1 m.1 (precedes_either l.1 m.1) a b in ap₂ (λ (x y : List ℕ). (x, y)) r.0 r.1

pub layer_one_way : (l m : Layer) → layer_before l m ≡ true → layer_before m l ≡ false
unfolding first_by
layer_one_way l m a = first_one_way precedes l.0 m.0 l.1 m.1 (precedes_one_way l.1 m.1) a

pub layer_behind : (k l m : Layer) → layer_before l k ≡ false → layer_before m l ≡ false → layer_before m k ≡ false
unfolding first_by
layer_behind k l m a b = first_behind precedes k.0 l.0 m.0 k.1 l.1 m.1 (behind_trans k.1 l.1 m.1) a b
