-- Two files of one length and one pieces root whose piece layers differ show two different strings of 64 bytes with one SHA-256: left child
-- then right child of one and the same position, in the two files' trees.
-- Assumes nothing.
use Rattle.std.specs.Prelude.{◌≡◌, ◌⊎◌, Bool, true, false, length, take, drop, List, ◌++◌, ℕ, zero, suc, ◌+◌, ◌-◌, ◌*◌, ◌^◌, ◌≤◌, ◌<◌}
use Rattle.std.proofs.Math.Path.{refl, sym, ap, ap₂}
use Rattle.std.proofs.Common.{◌∙◌, inl, inr, take_at, drop_at, arith}
use Rattle.std.proofs.Math.Nat.{pow-succ'}
use Rattle.std.proofs.Math.Decide.{dec_lt, ℕ_discrete}
use Rattle.octets.specs.Octets.{Octets, same}
use Rattle.octets.specs.OctetsLaws.{append_octets, same_true, same_false}
use Rattle.tree.specs.Geometry.{block_count, height, covering}
use Rattle.tree.proofs.GeometryLaws.{covering_within}
use Rattle.tree.specs.Values.{node, leaf_of, pieces_root, layer_of, whole_layer}
use Rattle.tree.proofs.ValuesLaws.{file_octets}
use Rattle.sha256.specs.Sha256.{sha256, pair_hash}

-- left child then right child of a position of the file's tree
abbrev pub children_of : List ℕ → ℕ → ℕ → List ℕ
children_of file l i = node (leaf_of file) l (2 * i) ++ node (leaf_of file) l (2 * i + 1)

-- at one position of the trees of x and y these are different, with one hash
pub record TwoStrings (x y : List ℕ) : Type 0 where
  pub layer : ℕ
  pub index : ℕ
  pub bytes : Octets 64 (children_of x layer index)
  pub bytes' : Octets 64 (children_of y layer index)
  pub differ : children_of x layer index ≡ children_of y layer index → ⊥
  pub alike : sha256 (children_of x layer index) ≡ sha256 (children_of y layer index)

children_octets : (file : List ℕ) (l i : ℕ) → Octets 64 (children_of file l i)
children_octets file l i = append_octets (file_octets file l (2 * i)) (file_octets file l (2 * i + 1))

split : (a b c d : List ℕ) → length a ≡ 32 → length c ≡ 32 → a ++ b ≡ c ++ d → (a ≡ c) × (b ≡ d)
split a b c d la lc e = (sym (take_at a b 32 la) ∙ ap (take 32) e ∙ take_at c d 32 lc, sym (drop_at a b 32 la) ∙ ap (drop 32) e ∙ drop_at c d 32 lc)

module _ (x y : List ℕ) where
  -- the first m nodes of layer l are the same in both trees
  abbrev Alike : ℕ → ℕ → Type 0
  Alike l m = (j : ℕ) → j < m → node (leaf_of x) l j ≡ node (leaf_of y) l j

  hashes_alike : (l i : ℕ) → node (leaf_of x) (suc l) i ≡ node (leaf_of y) (suc l) i → sha256 (children_of x l i) ≡ sha256 (children_of y l i)
  unfolding node pair_hash
  hashes_alike l i e = e

  one_more : (l m : ℕ) → Alike l (2 * m) → children_of x l m ≡ children_of y l m → Alike l (2 * suc m)
  one_more l m a e j b = by_place (dec_lt j (2 * m)) (ℕ_discrete j (2 * m))
    where
      two : (node (leaf_of x) l (2 * m) ≡ node (leaf_of y) l (2 * m)) × (node (leaf_of x) l (2 * m + 1) ≡ node (leaf_of y) l (2 * m + 1))
      two =
          split (node (leaf_of x) l (2 * m)) (node (leaf_of x) l (2 * m + 1)) (node (leaf_of y) l (2 * m)) (node (leaf_of y) l (2 * m + 1)) (file_octets x l (2 * m)).size
          (file_octets y l (2 * m)).size e

      by_place : Dec (j < 2 * m) → Dec (j ≡ 2 * m) → node (leaf_of x) l j ≡ node (leaf_of y) l j
      by_place (yes k) q = a j k
      by_place (no k) (yes q) = rw q two.0
      by_place (no k) (no q) = let z : j ≡ 2 * m + 1 = omega arith in rw z two.1

  -- so are their children, or two strings are shown
  children : (l m : ℕ) → Alike (suc l) m → Alike l (2 * m) ⊎ TwoStrings x y
  children l zero h = inl (λ j b. absurd (omega arith))
  children l (suc m) h = by_rest (children l m (λ j b. h j (omega arith)))
    where
      by_pair : Alike l (2 * m) → (t : Bool) → same (children_of x l m) (children_of y l m) ≡ t → Alike l (2 * suc m) ⊎ TwoStrings x y
      by_pair a true e = inl (one_more l m a (same_true (children_of x l m) (children_of y l m) e))
      by_pair a false e =
          inr
          (record {
            layer = l;
            index = m;
            bytes = children_octets x l m;
            bytes' = children_octets y l m;
            differ = same_false (children_of x l m) (children_of y l m) e;
            alike = hashes_alike l m (h m (omega arith));
          })

      by_rest : Alike l (2 * m) ⊎ TwoStrings x y → Alike l (2 * suc m) ⊎ TwoStrings x y
      by_rest (inl a) = by_pair a (same (children_of x l m) (children_of y l m)) refl
      by_rest (inr w) = inr w

  -- from one node d layers up
  down : (l d : ℕ) → node (leaf_of x) (l + d) 0 ≡ node (leaf_of y) (l + d) 0 → Alike l (2 ^ d) ⊎ TwoStrings x y
  down l zero e = let q : l + 0 ≡ l = omega arith in inl (λ j b. let z : j ≡ 0 = omega arith in rw z (rw q at e))
  down l (suc d) e =
      let q : suc l + d ≡ l + suc d = omega arith in
      by_above (down (suc l) d (ap (λ (k : ℕ). node (leaf_of x) k 0) q ∙ e ∙ sym (ap (λ (k : ℕ). node (leaf_of y) k 0) q)))
    where
      by_above : Alike (suc l) (2 ^ d) ⊎ TwoStrings x y → Alike l (2 ^ suc d) ⊎ TwoStrings x y
      by_above (inr w) = inr w
      by_above (inl a) = by_children (children l (2 ^ d) a)
        where
          by_children : Alike l (2 * 2 ^ d) ⊎ TwoStrings x y → Alike l (2 ^ suc d) ⊎ TwoStrings x y
          by_children (inr w) = inr w
          by_children (inl b) = inl (λ j h. b j (omega (arith, pow-succ' 2 d)))

  layers_alike : (p c : ℕ) → Alike p c → layer_of x p c ≡ layer_of y p c
  unfolding layer_of
  layers_alike p zero h = refl
  layers_alike p (suc c) h = ap₂ (λ (a b : List ℕ). a ++ b) (layers_alike p c (λ j b. h j (omega arith))) (h c (omega arith))

  pub two_layers_show : length x ≡ length y → pieces_root x ≡ pieces_root y → (p : ℕ) → p ≤ height (block_count (length x)) → (whole_layer x p ≡ whole_layer y p → ⊥) → TwoStrings x y
  unfolding pieces_root whole_layer
  two_layers_show n e p l w =
      let q : p + (height (block_count (length x)) - p) ≡ height (block_count (length x)) = omega arith in
      by_layers
      (down p (height (block_count (length x)) - p)
      (ap (λ (k : ℕ). node (leaf_of x) k 0) q ∙ e ∙ ap (λ (k : ℕ). node (leaf_of y) (height (block_count k)) 0) (sym n) ∙ sym (ap (λ (k : ℕ). node (leaf_of y) k 0) q)))
    where
      by_layers : Alike p (2 ^ (height (block_count (length x)) - p)) ⊎ TwoStrings x y → TwoStrings x y
      by_layers (inr s) = s
      by_layers (inl a) =
          absurd
          (w
          (layers_alike p (covering (block_count (length x)) p) (λ j b. let m = covering_within (block_count (length x)) p l in a j (omega arith))
          ∙ ap (λ (k : ℕ). layer_of y p (covering (block_count k) p)) n))
