-- The array holds the path to where a walk has come.
-- Assumes nothing.
use Rattle.std.specs.Prelude.{◌≡◌, refl, List, [], ◌∷◌, ◌++◌, ℕ, zero, suc, ◌+◌, ◌*◌, ◌≤◌, ◌<◌, length, take, set, get_or}
use Rattle.std.proofs.Common.{sym, ap, ◌∙◌, arith, length-set, take-suc-set, get_or-take, length-take-le}
use Rattle.std.proofs.lemmas.List.{take-set-le}
use Rattle.filetree.specs.Tree.{max_elements, Element, down}
use Rattle.filetree.specs.Path.{path_size, set_element, Holds, flat}

pub flat_length : (p : List Element) → length (flat p) ≡ 2 * length p
unfolding flat
flat_length [] = refl
flat_length (e ∷ es) = let x = flat_length es in omega arith

pub flat_down : (p : List Element) (a b : ℕ) → flat (down p a b) ≡ flat p ++ a ∷ b ∷ []
unfolding flat
flat_down [] a b = refl
flat_down (e ∷ es) a b = ap (λ (x : List ℕ). e.start ∷ e.end ∷ x) (flat_down es a b)

-- element k in it
abbrev pub no_element : Element
no_element = record { start = 0; end = 0 }

unfoldable pub element_number : List Element → ℕ → Element
element_number [] k = no_element
element_number (e ∷ es) zero = e
element_number (e ∷ es) (suc k) = element_number es k

pub flat_element : (p : List Element) (k : ℕ) → (get_or (flat p) (2 * k) 0 ≡ (element_number p k).start) × (get_or (flat p) (2 * k + 1) 0 ≡ (element_number p k).end)
unfolding flat element_number
flat_element [] k = (refl, refl)
flat_element (e ∷ es) zero = (refl, refl)
flat_element (e ∷ es) (suc k) =
    let x = flat_element es k in
    let q : 2 * suc k ≡ suc (suc (2 * k)) = omega arith in
    let r : 2 * suc k + 1 ≡ suc (suc (2 * k + 1)) = omega arith in
    (rw q x.0, rw r x.1)

module _ (path : List ℕ) (d : ℕ) (p : List Element) (l : length path ≡ path_size) (w : Holds path d p) where
  pub holds_length : d ≤ max_elements → d ≡ length p
  holds_length h = let x = flat_length p in let y : length (take (2 * d) path) ≡ 2 * d = length-take-le (2 * d) path (omega arith) in let z = ap length w in omega arith

  pub holds_down : (a b : ℕ) → d < max_elements → Holds (set_element path d a b) (d + 1) (down p a b)
  holds_down a b h =
      let e : 2 * (d + 1) ≡ suc (2 * d + 1) = omega arith in
      let f : 2 * d + 1 ≡ suc (2 * d) = omega arith in
      let x : take (suc (2 * d)) (set path (2 * d) a) ≡ take (2 * d) path ++ a ∷ [] = take-suc-set path (2 * d) a (omega arith) in
      let y : take (suc (2 * d + 1)) (set_element path d a b) ≡ take (2 * d + 1) (set path (2 * d) a) ++ b ∷ [] = take-suc-set (set path (2 * d) a) (2 * d + 1) b (omega (arith, length-set path (2 * d) a)) in
      ap (λ (n : ℕ). take n (set_element path d a b)) e ∙ y ∙ ap (λ (n : ℕ). take n (set path (2 * d) a) ++ b ∷ []) f ∙ ap (λ (z : List ℕ). z ++ b ∷ []) (x ∙ ap (λ (z : List ℕ). z ++ a ∷ []) w) ∙ two (flat p) a b ∙ sym (flat_down p a b)
    where
      two : (xs : List ℕ) (a b : ℕ) → (xs ++ a ∷ []) ++ b ∷ [] ≡ xs ++ a ∷ b ∷ []
      two [] a b = refl
      two (x ∷ xs) a b = ap (λ (z : List ℕ). x ∷ z) (two xs a b)

-- an element behind the first d leaves them
pub holds_still : (path : List ℕ) (d : ℕ) (p : List Element) (a b : ℕ) → Holds path d p → Holds (set_element path d a b) d p
holds_still path d p a b w = take-set-le (2 * d) (set path (2 * d) a) (2 * d + 1) b (omega arith) ∙ take-set-le (2 * d) path (2 * d) a (omega arith) ∙ w

-- two arrays that hold one path
pub holds_element : (path : List ℕ) (d : ℕ) (p : List Element) → Holds path d p → (k : ℕ) → k < d → (get_or path (2 * k) 0 ≡ (element_number p k).start) × (get_or path (2 * k + 1) 0 ≡ (element_number p k).end)
holds_element path d p w k h =
    let x = flat_element p k in (
      sym (get_or-take (2 * d) path (2 * k) 0 (omega arith)) ∙ ap (λ (z : List ℕ). get_or z (2 * k) 0) w ∙ x.0,
      sym (get_or-take (2 * d) path (2 * k + 1) 0 (omega arith)) ∙ ap (λ (z : List ℕ). get_or z (2 * k + 1) 0) w ∙ x.1,
    )

pub set_length : (path : List ℕ) (d a b : ℕ) → length (set_element path d a b) ≡ length path
set_length path d a b = length-set (set path (2 * d) a) (2 * d + 1) b ∙ length-set path (2 * d) a
