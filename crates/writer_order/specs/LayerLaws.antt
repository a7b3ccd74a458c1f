-- The tests of 26 and 28 as the code makes them, from a record's parts.
-- Assumes nothing.
use Rattle.std.specs.Prelude.{◌≡◌, Bool, true, false, ◌&&◌, not, List, ℕ, ◌+◌, ◌-◌, ◌≤◌, length, take, drop, eqb, Some, None}
use Rattle.std.proofs.Math.Path.{refl, sym}
use Rattle.std.proofs.Common.{ap, ap₂, ◌∙◌, arith}
use Rattle.octets.specs.Octets.{cut, same, number_at}
use Rattle.octets.specs.OctetsLaws.{cut_length, same_refl}
use Rattle.tree.specs.Geometry.{block_count, height, piece_layer, has_layer}
use Rattle.tree.specs.Values.{layer_root}
use Rattle.writer_meaning.specs.Content.{Item}
use Rattle.writer_meaning.specs.Number.{gives_other}
use Rattle.writer_lists.specs.Lists.{item_at}
use Rattle.writer_order.specs.Neighbours.{agree, first_wrong, wrong_next}
use Rattle.writer_order.specs.CompareLaws.{root_slice, layer_slice}

pub root_length : (list : List ℕ) (p : ℕ) → p + 56 ≤ length list → length (take (p + 40 - (p + 8)) (drop (p + 8) list)) ≡ 32
root_length list p h = ap (λ (n : ℕ). length (take n (drop (p + 8) list))) size ∙ slice_length (cut_length list (p + 8) 32 (omega arith))
  where
    size : p + 40 - (p + 8) ≡ 32
    size = omega arith

    slice_length : length (cut list (p + 8) 32) ≡ 32 → length (take 32 (drop (p + 8) list)) ≡ 32
    slice_length e = unfold cut in e

-- ---- the first of a run

module _ (list text : List ℕ) (plen p n : ℕ) (en : n ≡ number_at list p 8) (t : Bool) (et : t ≡ has_layer n plen) where
  size_is : (item_at list text p).size ≡ n
  unfolding item_at
  size_is = sym en

  first_is : gives_other plen (item_at list text p) ≡ t && not
      (same (layer_root (item_at list text p).layer (piece_layer plen) (height (block_count n))) (item_at list text p).root)
  first_is = rw (size_is, et) refl

  pub no_layer : t ≡ false → false ≡ gives_other plen (item_at list text p)
  no_layer f = sym (first_is ∙ rw f refl)

  module _ (f : t ≡ true) (s m : ℕ) (es : s ≡ number_at list (p + 40) 4) (em : m ≡ number_at list (p + 40 + 4) 4) (g : Bool)
      (eg : g ≡ same (layer_root (take (s + m - s) (drop s text)) (piece_layer plen) (height (block_count n)))
      (take (p + 40 - (p + 8)) (drop (p + 8) list))) where
    given : gives_other plen (item_at list text p) ≡ not g
    given =
        first_is ∙ rw f refl
        ∙ sym (ap not (eg ∙ ap₂ (λ (x y : List ℕ). same (layer_root x (piece_layer plen) (height (block_count n))) y)
        (layer_slice list text p s m es em) (root_slice list text p)))

    pub layer_gives : g ≡ true → false ≡ gives_other plen (item_at list text p)
    layer_gives q = sym (given ∙ ap not q)

    pub layer_does_not : g ≡ false → true ≡ gives_other plen (item_at list text p)
    layer_does_not q = sym (given ∙ ap not q)

-- ---- two of a run

module _ (list text : List ℕ) (p q s m u n : ℕ) (es : s ≡ number_at list (p + 40) 4) (em : m ≡ number_at list (p + 40 + 4) 4)
    (eu : u ≡ number_at list (q + 40) 4) (en : n ≡ number_at list (q + 40 + 4) 4) where
  pub one_part : s ≡ u → m ≡ n → true ≡ agree true (item_at list text p) (item_at list text q)
  one_part e f =
      sym (ap (same (item_at list text p).layer) (sym (layer_slice list text q s m (e ∙ eu) (f ∙ en)) ∙ layer_slice list text p s m es em) ∙
      same_refl (item_at list text p).layer)

  pub parts_compared : (r : Bool) → r ≡ same (take (s + m - s) (drop s text)) (take (u + n - u) (drop u text))
      → r ≡ agree true (item_at list text p) (item_at list text q)
  parts_compared r e = e ∙ ap₂ same (layer_slice list text p s m es em) (layer_slice list text q u n eu en)

module _ (list text : List ℕ) (p q : ℕ) where
  pub lengths_agree_lem : (m n : ℕ) → m ≡ number_at list p 8 → n ≡ number_at list q 8
      → eqb m n ≡ agree false (item_at list text p) (item_at list text q)
  unfolding item_at
  lengths_agree_lem m n em en = rw (em, en) refl

-- ---- a file behind another

module _ (list text : List ℕ) (alone : Item → Bool) (beside : Item → Item → Bool) (p q : ℕ) (t : Bool)
    (et : t ≡ same (take (p + 40 - (p + 8)) (drop (p + 8) list)) (take (q + 40 - (q + 8)) (drop (q + 8) list))) where
  roots : same (item_at list text p).root (item_at list text q).root ≡ t
  roots = sym (et ∙ ap₂ same (root_slice list text p) (root_slice list text q))

  pub other_run : t ≡ false → (r : Bool) → r ≡ alone (item_at list text q)
      → r ≡ wrong_next alone beside (Some (item_at list text p)) (item_at list text q)
  other_run f r g = rw (roots ∙ f) g

  pub same_run : t ≡ true → (a : Bool) → a ≡ beside (item_at list text p) (item_at list text q)
      → not a ≡ wrong_next alone beside (Some (item_at list text p)) (item_at list text q)
  same_run f a g = rw (roots ∙ f) (ap not g)

-- ---- the two tests, and where no run was before

pub not_looked : (list text : List ℕ) (plen : ℕ) (layers : Bool) (p : ℕ) → layers ≡ false → false ≡ first_wrong layers plen (item_at list text p)
not_looked list text plen layers p e = rw e refl

pub layers_agree : (list text : List ℕ) (layers : Bool) (p q : ℕ) → layers ≡ true → (r : Bool) → r ≡ agree true (item_at list text p) (item_at list text q)
    → r ≡ agree layers (item_at list text p) (item_at list text q)
layers_agree list text layers p q e r f = rw e f

pub none_seen : (list text : List ℕ) (plen : ℕ) (layers : Bool) (q : ℕ) (r : Bool) → r ≡ first_wrong layers plen (item_at list text q)
    → r ≡ wrong_next (first_wrong layers plen) (agree layers) None (item_at list text q)
none_seen list text plen layers q r f = f
