-- The count beside a load: as many positions are held then as the bytes name. And the marks of a store that was saved and loaded are the same.
-- Assumes nothing.
use Rattle.std.specs.Prelude.{◌≡◌, Bool, true, false, cond, List, [], ◌∷◌, ◌++◌, ◌↔◌, ◌⊎◌, get_or, ℕ, zero, suc, ◌+◌, ◌-◌, ◌*◌, ◌^◌, ◌≤◌, ◌<◌}
use Rattle.std.proofs.Math.Path.{refl, ap}
use Rattle.std.proofs.Common.{sym, ◌∙◌, subst, inl, inr, arith}
use Rattle.std.proofs.Math.Decide.{ℕ_discrete}
use Rattle.std.proofs.Math.Nat.{pow-zero}
use Rattle.std.proofs.Math.ListN.{length, length-append}
use Rattle.std.proofs.Math.Pow.{pow_pos}
use Rattle.tree.specs.Geometry.{node_number}
use Rattle.tree.proofs.GeometryLaws.{layer_doubles}
use Rattle.cells.specs.Cells.{held_at}
use Rattle.cells.specs.Entries.{one_if}
use Rattle.store.specs.Store.{blocks_of, height_of, positions, Facts}
use Rattle.store.specs.StoreLaws.{held_count}
use Rattle.marks.specs.Marks.{marked_at}
use Rattle.saved.specs.Form.{Saved, saved_bytes, mark_count, place_count, block_in, places_to, marks_to, marks_from, value_in, NamesMark}
use Rattle.saved.specs.Saved.{opening_number, sound, loaded}
use Rattle.saved.specs.Save.{place_held, layer_held, held_below, marked_below, saved_of}
use Rattle.saved.proofs.RoundTrip.{saved_of_loaded}
use Rattle.saved.proofs.SaveLaws.{saved_reads}

module _ (s : List ℕ) (h : ℕ) where
  count_next : (k : ℕ) → held_count (suc k) s ≡ held_count k s + one_if (held_at s (suc k))
  unfolding held_count
  count_next k = refl

  count_none : held_count 0 s ≡ 0
  unfolding held_count
  count_none = refl

  one_long : (l i : ℕ) → length (place_held s h l i) ≡ one_if (held_at s (node_number h l i))
  one_long l i = by (held_at s (node_number h l i)) refl
    where
      by : (x : Bool) → held_at s (node_number h l i) ≡ x → length (place_held s h l i) ≡ one_if (held_at s (node_number h l i))
      by true e = rw e
      by false e = rw e

  -- a layer's numbers follow each other
  layer_count : (l w : ℕ) → held_count (2 ^ (h - l) - 1 + w) s ≡ held_count (2 ^ (h - l) - 1) s + length (layer_held s h l w)
  unfolding layer_held
  layer_count l zero = let e : 2 ^ (h - l) - 1 + 0 ≡ 2 ^ (h - l) - 1 = omega arith in rw e (omega arith)
  layer_count l (suc w) =
      let p = pow_pos (h - l) in
      let e : 2 ^ (h - l) - 1 + suc w ≡ suc (2 ^ (h - l) - 1 + w) = omega arith in
      let n : suc (2 ^ (h - l) - 1 + w) ≡ node_number h l w = unfold node_number in omega arith in
      let q : one_if (held_at s (suc (2 ^ (h - l) - 1 + w))) ≡ one_if (held_at s (node_number h l w)) = ap (λ (k : ℕ). one_if (held_at s k)) n in
      let a : length (layer_held s h l w ++ place_held s h l w) ≡ length (layer_held s h l w) + length (place_held s h l w) = simp length-append in
      ap (λ (k : ℕ). held_count k s) e ∙ omega (arith, count_next (2 ^ (h - l) - 1 + w), layer_count l w, one_long l w)

  whole_layer : (l : ℕ) → l ≤ h → held_count (2 * 2 ^ (h - l) - 1) s ≡ held_count (2 ^ (h - l) - 1) s + length (layer_held s h l (2 ^ (h - l)))
  whole_layer l lh =
      let p = pow_pos (h - l) in
      let e : 2 * 2 ^ (h - l) - 1 ≡ 2 ^ (h - l) - 1 + 2 ^ (h - l) = omega arith in
      ap (λ (k : ℕ). held_count k s) e ∙ layer_count l (2 ^ (h - l))

  below_count : (l : ℕ) → l ≤ h → length (held_below s h l) + held_count (2 * 2 ^ (h - l) - 1) s ≡ held_count (2 * 2 ^ h - 1) s
  unfolding held_below
  below_count zero lh = let e : h - 0 ≡ h = omega arith in rw e (omega arith)
  below_count (suc l) lh =
      let d = layer_doubles h l (omega arith) in
      let e : 2 * 2 ^ (h - suc l) - 1 ≡ 2 ^ (h - l) - 1 = omega arith in
      let a : length (held_below s h l ++ layer_held s h l (2 ^ (h - l))) ≡ length (held_below s h l) + length (layer_held s h l (2 ^ (h - l))) = simp length-append in
      let q : held_count (2 * 2 ^ (h - suc l) - 1) s ≡ held_count (2 ^ (h - l) - 1) s = ap (λ (k : ℕ). held_count k s) e in
      omega (arith, below_count l (omega arith), whole_layer l (omega arith))

  -- as many positions are listed as are held
  pub listed_count : length (held_below s h (suc h)) ≡ held_count (positions h - 1) s
  unfolding held_below positions
  listed_count =
      let z : h - h ≡ 0 = omega arith in
      let one : 2 ^ (h - h) ≡ 1 = rw (z, pow-zero 2) in
      let a : length (held_below s h h ++ layer_held s h h (2 ^ (h - h))) ≡ length (held_below s h h) + length (layer_held s h h (2 ^ (h - h))) = simp length-append in
      let e : 2 ^ (h - h) - 1 ≡ 0 = omega arith in
      let q : held_count (2 ^ (h - h) - 1) s ≡ 0 = ap (λ (k : ℕ). held_count k s) e ∙ count_none in
      omega (arith, below_count h (omega arith), whole_layer h (omega arith))

-- a place is read for each record
pub places_many : (b : List ℕ) (p : ℕ) → length (places_to b p) ≡ p
unfolding places_to
places_many b zero = refl
places_many b (suc p) = simp length-append (omega (arith, places_many b p))

-- THE COUNT beside a load is the positions then held
pub load_counts : (s b : List ℕ) → opening_number (length s) b ≡ 0 → sound b ≡ true → held_count (positions (height_of (loaded s b)) - 1) (loaded s b) ≡ place_count b
load_counts s b z g =
    sym (listed_count (loaded s b) (height_of (loaded s b))) ∙ ap length (places s b z g) ∙ places_many b (place_count b)
  where
    places : (s b : List ℕ) → opening_number (length s) b ≡ 0 → sound b ≡ true → held_below (loaded s b) (height_of (loaded s b)) (suc (height_of (loaded s b))) ≡ places_to b (place_count b)
    places s b z g = unfold saved_of value_in in ap (λ (v : Saved). v.places) (saved_of_loaded s b z g)

-- ---- marks

data InBlocks (x : ℕ) : List ℕ → Type 0 where
  here : {L : List ℕ} → InBlocks x (x ∷ L)
  there : {y : ℕ} {L : List ℕ} → InBlocks x L → InBlocks x (y ∷ L)

in_front : {x : ℕ} (A B : List ℕ) → InBlocks x A → InBlocks x (A ++ B)
in_front (y ∷ A) B here = here
in_front (y ∷ A) B (there i) = there (in_front A B i)
in_front [] B x'' = elim x'' [ ]

in_back : {x : ℕ} (A B : List ℕ) → InBlocks x B → InBlocks x (A ++ B)
in_back [] B i = i
in_back (y ∷ A) B i = there (in_back A B i)

in_either : {x : ℕ} (A B : List ℕ) → InBlocks x (A ++ B) → InBlocks x A ⊎ InBlocks x B
in_either [] B i = inr i
in_either (y ∷ A) B here = inl here
in_either (y ∷ A) B (there i) = elim (in_either A B i) [ inl a ↦ inl (there a) | inr z ↦ inr z ]

in_length : {x : ℕ} (L : List ℕ) → InBlocks x L → 1 ≤ length L
in_length (y ∷ L) here = omega arith
in_length (y ∷ L) (there i) = omega (arith, in_length L i)
in_length [] x'' = elim x'' [ ]

alone : (x y : ℕ) → InBlocks x (y ∷ []) → x ≡ y
alone x y here = refl
alone x y (there i) = absurd (omega (arith, in_length [] i))

named_exactly : (b : List ℕ) (at m j : ℕ) → InBlocks j (marks_to b at m) ↔ ((i : ℕ) × (i < m) × (block_in b at i ≡ j))
unfolding marks_to
named_exactly b at zero j = (λ k. absurd (omega (arith, in_length [] k)), λ w. absurd (omega (arith, w.1)))
named_exactly b at (suc m) j = to_and_from (named_exactly b at m j)
  where
    to_and_from : InBlocks j (marks_to b at m) ↔ ((i : ℕ) × (i < m) × (block_in b at i ≡ j)) → InBlocks j (marks_to b at m ++ (block_in b at m ∷ [])) ↔ ((i : ℕ) × (i < suc m) × (block_in b at i ≡ j))
    to_and_from r = (
      λ k. elim (in_either (marks_to b at m) (block_in b at m ∷ []) k) [
        | inl a ↦ let w = r.0 a in (w.0, omega (arith, w.1), w.2)
        | inr a ↦ (m, omega arith, sym (alone j (block_in b at m) a))
      ],
      λ w. elim (ℕ_discrete w.0 m) [
        | yes e ↦ in_back (marks_to b at m) (block_in b at m ∷ []) (let q : block_in b at m ≡ j = ap (block_in b at) (sym e) ∙ w.2 in rw q here)
        | no ne ↦ in_front (marks_to b at m) (block_in b at m ∷ []) (r.1 (w.0, omega (arith, w.1), w.2))
      ],
    )

marked_exactly : (s : List ℕ) (n j : ℕ) → InBlocks j (marked_below s n) ↔ ((j < n) × (marked_at s j ≡ true))
unfolding marked_below
marked_exactly s zero j = (λ k. absurd (omega (arith, in_length [] k)), λ w. absurd (omega (arith, w.0)))
marked_exactly s (suc n) j = to_and_from (marked_exactly s n j)
  where
    this : InBlocks j (cond (marked_at s n) (n ∷ []) []) → (j ≡ n) × (marked_at s n ≡ true)
    this k = by (marked_at s n) refl
      where
        by : (x : Bool) → marked_at s n ≡ x → (j ≡ n) × (marked_at s n ≡ true)
        by true e = let w : InBlocks j (n ∷ []) = rw e at k in (alone j n w, e)
        by false e = let w : InBlocks j [] = rw e at k in absurd (omega (arith, in_length [] w))

    to_and_from : InBlocks j (marked_below s n) ↔ ((j < n) × (marked_at s j ≡ true)) → InBlocks j (marked_below s n ++ cond (marked_at s n) (n ∷ []) []) ↔ ((j < suc n) × (marked_at s j ≡ true))
    to_and_from r = (
      λ k. elim (in_either (marked_below s n) (cond (marked_at s n) (n ∷ []) []) k) [
        | inl a ↦ let w = r.0 a in (omega (arith, w.0), w.1)
        | inr a ↦ let w = this a in (omega (arith, w.0), ap (marked_at s) w.0 ∙ w.1)
      ],
      λ w. elim (ℕ_discrete j n) [
        | yes e ↦ in_back (marked_below s n) (cond (marked_at s n) (n ∷ []) []) (let q : marked_at s n ≡ true = rw e at w.1 in rw (q, e) here)
        | no ne ↦ in_front (marked_below s n) (cond (marked_at s n) (n ∷ []) []) (r.1 (omega (arith, w.0), w.1))
      ],
    )

-- THE MARKS OF A SAVE: any usable store's save names a block exactly if it is marked
module _ (s : List ℕ) (f : Facts s) (bytes : (i : ℕ) → get_or s i 0 < 256) where
  read_marks : marks_to (saved_bytes (saved_of s)) (marks_from (saved_bytes (saved_of s))) (mark_count (saved_bytes (saved_of s))) ≡ marked_below s (blocks_of s)
  unfolding value_in saved_of
  read_marks = ap (λ (v : Saved). v.marks) (saved_reads s f bytes).2

  pub saved_marks : (j : ℕ) → NamesMark (saved_bytes (saved_of s)) j ↔ ((j < blocks_of s) × (marked_at s j ≡ true))
  saved_marks j =
      let n = named_exactly (saved_bytes (saved_of s)) (marks_from (saved_bytes (saved_of s))) (mark_count (saved_bytes (saved_of s))) j in
      let m = marked_exactly s (blocks_of s) j in
      (λ x. m.0 (subst (InBlocks j) read_marks (n.1 x)), λ x. n.0 (subst (InBlocks j) (sym read_marks) (m.1 x)))
