-- Two files of one length with one pieces root are the same file, or their trees show a pair, or two of their blocks are different strings
-- with one SHA-256.
-- Assumes nothing.
use Rattle.std.specs.Prelude.{◌≡◌, Bool, true, false, List, ◌++◌, ◌⊎◌, length, ℕ, zero, suc, ◌+◌, ◌-◌, ◌*◌, ◌^◌, ◌≤◌, ◌<◌}
use Rattle.std.proofs.Math.Path.{refl, ap}
use Rattle.std.proofs.Common.{sym, ◌∙◌, subst, arith}
use Rattle.std.proofs.Math.Logic.{inl, inr}
use Rattle.std.proofs.Math.Nat.{pow-succ'}
use Rattle.std.proofs.Math.Decide.{dec_lt}
use Rattle.octets.specs.Octets.{Octets, same}
use Rattle.octets.specs.OctetsLaws.{append_octets, same_true, same_false}
use Rattle.sha256.specs.Sha256.{pair_hash}
use Rattle.tree.specs.Geometry.{block_count, height, block_size}
use Rattle.tree.proofs.GeometryLaws.{layer_doubles, left_start, right_start, height_enough}
use Rattle.tree.specs.Values.{node, leaf_of, block_of, pieces_root}
use Rattle.tree.proofs.ValuesLaws.{file_octets, leaf_block}
use Rattle.words.specs.History.{Bytes}
use Rattle.words.specs.Shown.{of_file, Gives, Shown, OneHash}
use Rattle.knowledge.specs.Conflict.{append_parts}
use Rattle.knowledge.specs.RootToBlock.{same_or_one_hash, block_octets}
use Rattle.knowledge.specs.PieceIsTheFiles.{search, by_blocks}

module _ (E F : List ℕ) (n : length E ≡ length F) where
  abbrev h : ℕ
  h = height (block_count (length F))

  abbrev e : ℕ → ℕ → List ℕ
  e l i = node (leaf_of E) l i

  abbrev f : ℕ → ℕ → List ℕ
  f l i = node (leaf_of F) l i

  same_tree : height (block_count (length E)) ≡ h
  same_tree = ap (λ (x : ℕ). height (block_count x)) n

  given_e : (l i : ℕ) → l ≤ h → i < 2 ^ (h - l) → Gives (of_file E) l i (e l i)
  unfolding Gives
  given_e l i a b = record { low = rw same_tree a; inside = rw same_tree b; value = refl }

  given_f : (l i : ℕ) → l ≤ h → i < 2 ^ (h - l) → Gives (of_file F) l i (f l i)
  unfolding Gives
  given_f l i a b = record { low = a; inside = b; value = refl }

  -- two pairs of children of one position
  shows : (l i : ℕ) → suc l ≤ h → i < 2 ^ (h - suc l) → (e l (2 * i) ++ e l (2 * i + 1) ≡ f l (2 * i) ++ f l (2 * i + 1) → ⊥)
      → pair_hash (e l (2 * i)) (e l (2 * i + 1)) ≡ pair_hash (f l (2 * i)) (f l (2 * i + 1)) → Shown h (of_file E) (of_file F)
  unfolding pair_hash
  shows l i a b d q =
      let w = layer_doubles h l (omega arith) in
      let low : l ≤ h = omega arith in
      let lin : 2 * i < 2 ^ (h - l) = omega arith in
      let rin : 2 * i + 1 < 2 ^ (h - l) = omega arith in
      record {
        layer = l;
        index = i;
        low = a;
        inside = b;
        l = e l (2 * i);
        r = e l (2 * i + 1);
        l' = f l (2 * i);
        r' = f l (2 * i + 1);
        left = given_e l (2 * i) low lin;
        right = given_e l (2 * i + 1) low rin;
        left' = given_f l (2 * i) low lin;
        right' = given_f l (2 * i + 1) low rin;
        bytes = append_octets (file_octets E l (2 * i)) (file_octets E l (2 * i + 1));
        bytes' = append_octets (file_octets F l (2 * i)) (file_octets F l (2 * i + 1));
        differ = d;
        alike = q;
      }

  children : (l i : ℕ) → suc l ≤ h → i < 2 ^ (h - suc l) → pair_hash (e l (2 * i)) (e l (2 * i + 1)) ≡ pair_hash (f l (2 * i)) (f l (2 * i + 1))
      → Shown h (of_file E) (of_file F) ⊎ ((e l (2 * i) ≡ f l (2 * i)) × (e l (2 * i + 1) ≡ f l (2 * i + 1)))
  children l i a b q = by (same (e l (2 * i)) (f l (2 * i))) (same (e l (2 * i + 1)) (f l (2 * i + 1))) refl refl
    where
      s : length (e l (2 * i)) ≡ length (f l (2 * i))
      s = (file_octets E l (2 * i)).size ∙ sym (file_octets F l (2 * i)).size

      by : (x y : Bool) → same (e l (2 * i)) (f l (2 * i)) ≡ x → same (e l (2 * i + 1)) (f l (2 * i + 1)) ≡ y
          → Shown h (of_file E) (of_file F) ⊎ ((e l (2 * i) ≡ f l (2 * i)) × (e l (2 * i + 1) ≡ f l (2 * i + 1)))
      by false y p r = inl (shows l i a b (λ z. same_false (e l (2 * i)) (f l (2 * i)) p (append_parts (e l (2 * i)) (e l (2 * i + 1)) (f l (2 * i)) (f l (2 * i + 1)) s z).0) q)
      by true false p r = inl (shows l i a b (λ z. same_false (e l (2 * i + 1)) (f l (2 * i + 1)) r (append_parts (e l (2 * i)) (e l (2 * i + 1)) (f l (2 * i)) (f l (2 * i + 1)) s z).1) q)
      by true true p r = inr (same_true (e l (2 * i)) (f l (2 * i)) p, same_true (e l (2 * i + 1)) (f l (2 * i + 1)) r)

  -- below a node that both have, the leaves are the same, or a pair is shown
  leaves_below : (l i : ℕ) → l ≤ h → i < 2 ^ (h - l) → e l i ≡ f l i
      → Shown h (of_file E) (of_file F) ⊎ ((z : ℕ) → z < 2 ^ l → leaf_of E (i * 2 ^ l + z) ≡ leaf_of F (i * 2 ^ l + z))
  unfolding node
  leaves_below zero i a b q =
      inr
      (λ z c.
      let p : i * 2 ^ 0 + z ≡ i = omega arith in
      rw p q)
  leaves_below (suc l) i a b q =
      let w = layer_doubles h l (omega arith) in
      elim (children l i a b q) [
        | inl s ↦ inl s
        | inr o ↦ elim (leaves_below l (2 * i) (omega arith) (omega arith) o.0) [
          | inl s ↦ inl s
          | inr L ↦ elim (leaves_below l (2 * i + 1) (omega arith) (omega arith) o.1) [
            | inl s ↦ inl s
            | inr R ↦
                inr
                (λ z c.
                elim (dec_lt z (2 ^ l)) [
                  | yes y ↦
                      let p : i * 2 ^ suc l + z ≡ 2 * i * 2 ^ l + z = omega (arith, left_start i l) in
                      rw p (L z y)
                  | no y ↦
                      let p : i * 2 ^ suc l + z ≡ (2 * i + 1) * 2 ^ l + (z - 2 ^ l) = omega (arith, left_start i l, right_start i l) in
                      rw p (R (z - 2 ^ l) (omega (arith, pow-succ' 2 l)))
                ])
          ]
        ]
      ]

-- what two files of one length with one root are
pub data OneRoot (E F : List ℕ) : Type 0 where
  same_file : E ≡ F → OneRoot E F
  trees_show : Shown (height (block_count (length F))) (of_file E) (of_file F) → OneRoot E F
  blocks_show : (x : ℕ) → OneHash (block_size (length F) x) (block_of E x) (block_of F x) → OneRoot E F

module _ (E F : List ℕ) (n : length E ≡ length F) (be : Bytes E) (bf : Bytes F) where
  abbrev H : ℕ
  H = height (block_count (length F))

  from_leaves : ((z : ℕ) → z < 2 ^ H → leaf_of E z ≡ leaf_of F z) → OneRoot E F
  from_leaves k =
      elim (search E F (block_count (length E))
      (λ x b.
      let c : x < block_count (length F) = rw n at b in
      same_or_one_hash (block_size (length E) x) (block_of E x) (block_of F x) (block_octets E x be b)
      (subst (λ (m : ℕ). Octets (block_size m x) (block_of F x)) (sym n) (block_octets F x bf c))
      (sym (leaf_block E x b) ∙ k x (omega (arith, height_enough (block_count (length F)))) ∙ leaf_block F x c))) [
        | inl o ↦ blocks_show o.0 (subst (λ (m : ℕ). OneHash (block_size m o.0) (block_of E o.0) (block_of F o.0)) n o.1)
        | inr q ↦ same_file (by_blocks E F n q)
      ]

  -- TWO FILES OF ONE LENGTH WITH ONE ROOT are the same, or two different strings with one SHA-256 are shown
  pub one_root : pieces_root E ≡ pieces_root F → OneRoot E F
  unfolding pieces_root
  one_root q =
      let t = ap (λ (x : ℕ). node (leaf_of E) (height (block_count x)) 0) (sym n) in
      let z : H - H ≡ 0 = omega arith in
      elim (leaves_below E F n H 0 (omega arith) (rw z (omega arith)) (t ∙ q)) [
        | inl s ↦ trees_show s
        | inr k ↦ from_leaves (λ y b. let p : 0 * 2 ^ H + y ≡ y = omega arith in rw p at (k y b))
      ]
