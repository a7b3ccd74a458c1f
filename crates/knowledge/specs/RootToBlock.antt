-- Demand 2, from the root to the block: what a store that only this build has written holds, opened with a file's own length and
-- pieces root, is the file's; so is a block that it answers 0; and the file's own blocks and pieces are answered 0. Each unless a pair is shown.
-- Assumes nothing.
use Rattle.std.specs.Prelude.{◌≡◌, refl, Bool, true, false, ◌⊎◌, ℕ, zero, suc, ◌+◌, ◌-◌, ◌*◌, ◌^◌, ◌≤◌, ◌<◌, min, length, List}
use Rattle.std.proofs.Math.Path.{ap}
use Rattle.std.proofs.Common.{ap₂, sym, ◌∙◌, subst, inl, inr, ltb-false, arith}
use Rattle.std.proofs.Math.Nat.{pow-succ'}
use Rattle.octets.specs.Octets.{Octets, cut, same}
use Rattle.octets.specs.OctetsLaws.{same_true, same_false, cut_octets, cut_short}
use Rattle.sha256.specs.Sha256.{sha256, pair_hash}
use Rattle.tree.specs.Geometry.{block_length, block_count, height, node_number, has_layer, piece_count, block_size, piece_size}
use Rattle.tree.proofs.GeometryLaws.{left_start, right_start, node_number_root, block_starts, piece_length_form}
use Rattle.tree.specs.Values.{node, leaf_of, block_of, piece_of, pieces_root}
use Rattle.tree.proofs.ValuesLaws.{leaf_octets, leaf_block, block_bytes, piece_bytes, leaf_of_piece, one_piece}
use Rattle.cells.specs.Cells.{held_at, hash_at}
use Rattle.cells.specs.Entries.{Entry, agrees}
use Rattle.cells.specs.EntriesLaws.{In, Has, has_same, apart_consistent, agrees_held, agrees_in, in_agrees}
use Rattle.store.specs.Store.{file_length, piece_length, blocks_of, height_of, positions, Facts}
use Rattle.store.specs.StoreLaws.{facts_usable, facts_leaves}
use Rattle.settling.specs.Span.{Within}
use Rattle.settling.specs.Subtree.{subtree}
use Rattle.settling.specs.SubtreeLaws.{within_tree, subtree_value, number_below, subtree_sound, subtree_apart, subtree_positive, subtree_family, subtree_top, subtree_has}
use Rattle.pieces.specs.Pieces.{layer_of_pieces, piece_height, block_number, piece_number}
use Rattle.pieces.proofs.PiecesLaws.{piece_in_lem, height_layer, piece_at_root, block_right, right_block, right_piece}
use Rattle.words.specs.History.{Bytes, OurStore}
use Rattle.words.specs.Shown.{held_by, of_file, OneHash}
use Rattle.words.specs.File.{For, piece_for}
use Rattle.knowledge.specs.Invariant.{Chained, Whole}
use Rattle.knowledge.specs.OwnBytes.{ours_have, ours_bytes}
use Rattle.knowledge.specs.Conflict.{ShownAt, GivesAt, agrees_or_shown, subtree_octets}

-- every position of the file's tree, with its hash
abbrev pub tree_of : List ℕ → List Entry
tree_of file = subtree (leaf_of file) (height (block_count (length file))) 1 0

tree_within : (h : ℕ) → Within (positions h) h 1
unfolding positions
tree_within h =
    let z : h - h ≡ 0 = omega arith in
    rw (← node_number_root h) (within_tree h h 0 h (omega arith) (rw z (omega arith)) (omega arith))

-- the file's tree gives each of its positions one hash, that of its two children
pub tree_whole : (file : List ℕ) (h : ℕ) → Whole (positions h) 1 (subtree (leaf_of file) h 1 0)
tree_whole file h =
    record {
      sound = subtree_sound (leaf_of file) (λ j. (leaf_octets file j).size) (positions h) h 1 0 (tree_within h);
      from = subtree_positive (leaf_of file) h 1 0 (omega arith);
      alone = apart_consistent (subtree (leaf_of file) h 1 0) (subtree_apart (leaf_of file) h 1 0 (omega arith));
      family = λ e x. elim (subtree_family (leaf_of file) h 1 0 e x) [ inl t ↦ inl t.0 | inr f ↦ inr f ];
    }

module _ (file s : List ℕ) (w : For file s) where
  -- the store's tree is as high as the file's
  pub same_height : height_of s ≡ height (block_count (length file))
  unfolding height_of blocks_of
  same_height = ap (λ (n : ℕ). height (block_count n)) w.long

  -- what a chained store holds agrees with the file's tree, or a pair is shown
  pub tree_agrees : Chained s → Bytes s → ShownAt (height_of s) (held_by s) (of_file file) ⊎ (agrees s (tree_of file) ≡ true)
  unfolding GivesAt pieces_root
  tree_agrees c b =
      let h = height (block_count (length file)) in
      agrees_or_shown s (of_file file) (tree_of file) 1 (node (leaf_of file) h 0) c b
      (rw same_height (tree_whole file h)) (λ n u x. x) (subtree_octets (leaf_of file) (leaf_octets file) h 1 0)
      (subtree_top (leaf_of file) h 1 0) c.root.0 (c.root.1 ∙ w.root)

  -- position i of layer l is in the file's tree, with the file's hash
  pub tree_has : (l i : ℕ) → l ≤ height_of s → i < 2 ^ (height_of s - l) → Has (node_number (height_of s) l i) (node (leaf_of file) l i) (subtree (leaf_of file) (height_of s) 1 0)
  unfolding node_number
  tree_has l i a b =
      let h = height_of s in
      let e : 1 * 2 ^ (height_of s - l) + i ≡ 2 ^ (height_of s - l) + i = omega arith in
      let j : 0 * 2 ^ (height_of s - l) + i ≡ i = omega arith in
      let k : height_of s - (height_of s - l) ≡ l = omega arith in
      has_same (subtree (leaf_of file) h 1 0) (1 * 2 ^ (h - l) + i) (2 ^ (h - l) + i) (node (leaf_of file) (h - (h - l)) (0 * 2 ^ (h - l) + i)) (node (leaf_of file) l i)
      e (ap₂ (λ (x y : ℕ). node (leaf_of file) x y) k j) (subtree_has (leaf_of file) h 1 0 (h - l) i (omega arith) b)

  -- where it agrees, every held hash is the file's
  pub agreed_is : agrees s (tree_of file) ≡ true → (l i : ℕ) → l ≤ height_of s → i < 2 ^ (height_of s - l)
      → held_at s (node_number (height_of s) l i) ≡ true → hash_at s (node_number (height_of s) l i) ≡ node (leaf_of file) l i
  agreed_is g l i a b h =
      let n = node_number (height_of s) l i in
      let v = node (leaf_of file) l i in
      let g2 : agrees s (subtree (leaf_of file) (height_of s) 1 0) ≡ true = rw same_height g in
      let x = agrees_in s (subtree (leaf_of file) (height_of s) 1 0) g2 (record { at = n; hash = v }) (tree_has l i a b) in
      same_true (hash_at s n) v (sym (agrees_held s n v h) ∙ x)

-- EVERY HELD HASH IS THE FILE'S, or a pair is shown
pub held_is_the_files_at : {s : List ℕ} (file : List ℕ) → OurStore s → For file s
    → ShownAt (height_of s) (held_by s) (of_file file)
    ⊎ ((l i : ℕ) → l ≤ height_of s → i < 2 ^ (height_of s - l) → held_at s (node_number (height_of s) l i) ≡ true
    → hash_at s (node_number (height_of s) l i) ≡ node (leaf_of file) l i)
held_is_the_files_at {s} file o w =
    elim (tree_agrees file s w (ours_have o).chained (ours_bytes o)) [ inl x ↦ inl x | inr g ↦ inr (agreed_is file s w g) ]

-- ---- blocks

-- block i of a string of bytes is one of the size that 01 gives it
pub block_octets : (file : List ℕ) (i : ℕ) → Bytes file → i < block_count (length file) → Octets (block_size (length file) i) (block_of file i)
unfolding block_of block_size
block_octets file i b l =
    let s = block_starts (length file) i l in
    let o : Octets (min block_length (length file - block_length * i)) (cut file (block_length * i) (min block_length (length file - block_length * i))) =
    cut_octets (block_length * i) (min block_length (length file - block_length * i)) b (omega arith) in
    subst (Octets (min block_length (length file - block_length * i))) (cut_short file (block_length * i) block_length) o

-- two strings with one SHA-256 are the same, or two different ones
pub same_or_one_hash : (n : ℕ) (a b : List ℕ) → Octets n a → Octets n b → sha256 a ≡ sha256 b → OneHash n a b ⊎ (a ≡ b)
same_or_one_hash n a b x y e = by (same a b) refl
  where
    by : (t : Bool) → same a b ≡ t → OneHash n a b ⊎ (a ≡ b)
    by true p = inr (same_true a b p)
    by false p = inl (record { bytes = x; bytes' = y; differ = same_false a b p; alike = e })

module _ (file s : List ℕ) (f : Facts s) (w : For file s) (i : ℕ) (l : i < blocks_of s) where
  leaf_inside : i < 2 ^ (height_of s - 0)
  leaf_inside = let z : height_of s - 0 ≡ height_of s = omega arith in rw z (omega (arith, facts_leaves s f))

  same_count : blocks_of s ≡ block_count (length file)
  unfolding blocks_of
  same_count = ap block_count w.long

  leaf_hash : agrees s (tree_of file) ≡ true → held_at s (node_number (height_of s) 0 i) ≡ true → hash_at s (node_number (height_of s) 0 i) ≡ sha256 (block_of file i)
  unfolding node
  leaf_hash g h = agreed_is file s w g 0 i (omega arith) leaf_inside h ∙ leaf_block file i (rw same_count at l)

-- A BLOCK ANSWERED 0 IS THE FILE'S, or a pair is shown, or the block and the file's block are two different strings of the block's size
-- with one SHA-256
pub block_is_the_files_at : {s : List ℕ} (file : List ℕ) (i : ℕ) (block : List ℕ) → OurStore s → For file s → Bytes file → Bytes block → block_number s i block ≡ 0
    → ShownAt (height_of s) (held_by s) (of_file file) ⊎ (OneHash (block_size (file_length s) i) block (block_of file i) ⊎ (block ≡ block_of file i))
block_is_the_files_at {s} file i block o w bf bb z =
    let r = block_right s i block z in
    let f = (ours_have o).chained.facts in
    let mine : Octets (block_size (file_length s) i) block = subst (λ (n : ℕ). Octets n block) r.size bb in
    let its : Octets (block_size (file_length s) i) (block_of file i) =
    subst (λ (n : ℕ). Octets (block_size n i) (block_of file i)) (sym w.long) (block_octets file i bf (rw (same_count file s f w i r.inside) at r.inside)) in
    elim (tree_agrees file s w (ours_have o).chained (ours_bytes o)) [
      | inl x ↦ inl x
      | inr g ↦ inr (same_or_one_hash (block_size (file_length s) i) block (block_of file i) mine its (sym r.alike ∙ leaf_hash file s f w i r.inside g r.held))
    ]

-- THE FILE'S OWN BLOCK, its leaf held, is answered 0, or a pair is shown
pub true_block : {s : List ℕ} (file : List ℕ) (i : ℕ) → OurStore s → For file s → i < blocks_of s → held_at s (node_number (height_of s) 0 i) ≡ true
    → ShownAt (height_of s) (held_by s) (of_file file) ⊎ (block_number s i (block_of file i) ≡ 0)
true_block {s} file i o w l h =
    let f = (ours_have o).chained.facts in
    elim (tree_agrees file s w (ours_have o).chained (ours_bytes o)) [
      | inl x ↦ inl x
      | inr g ↦
          inr (right_block s i (block_of file i)
          (record {
            store = facts_usable s f;
            inside = l;
            size = block_bytes file i ∙ ap (λ (n : ℕ). block_size n i) (sym w.long);
            held = h;
            alike = leaf_hash file s f w i l g h;
          }))
    ]

-- ---- pieces

-- two subtrees over the same leaves are the same
subtree_alike : (f g : ℕ → List ℕ) (k n j j2 : ℕ) → ((x : ℕ) → x < 2 ^ k → f (j * 2 ^ k + x) ≡ g (j2 * 2 ^ k + x))
    → (node f k j ≡ node g k j2) × (subtree f k n j ≡ subtree g k n j2)
unfolding node subtree
subtree_alike f g zero n j j2 h =
    let a : j * 2 ^ 0 + 0 ≡ j = omega arith in
    let b : j2 * 2 ^ 0 + 0 ≡ j2 = omega arith in
    let e : f j ≡ g j2 = rw (a, b) at (h 0 (omega arith)) in
    (e, rw e)
subtree_alike f g (suc k) n j j2 h =
    let d = pow-succ' 2 k in
    let L = subtree_alike f g k (2 * n) (2 * j) (2 * j2)
    (λ x l.
    let a : j * 2 ^ suc k + x ≡ 2 * j * 2 ^ k + x = omega (arith, left_start j k) in
    let b : j2 * 2 ^ suc k + x ≡ 2 * j2 * 2 ^ k + x = omega (arith, left_start j2 k) in
    ap f (sym a) ∙ h x (omega arith) ∙ ap g b) in
    let R = subtree_alike f g k (2 * n + 1) (2 * j + 1) (2 * j2 + 1)
    (λ x l.
    let a : j * 2 ^ suc k + (2 ^ k + x) ≡ (2 * j + 1) * 2 ^ k + x = omega (arith, left_start j k, right_start j k) in
    let b : j2 * 2 ^ suc k + (2 ^ k + x) ≡ (2 * j2 + 1) * 2 ^ k + x = omega (arith, left_start j2 k, right_start j2 k) in
    ap f (sym a) ∙ h (2 ^ k + x) (omega arith) ∙ ap g b) in
    let e : pair_hash (node f k (2 * j)) (node f k (2 * j + 1)) ≡ pair_hash (node g k (2 * j2)) (node g k (2 * j2 + 1)) = ap₂ pair_hash L.0 R.0 in
    (e, rw (L.1, R.1, L.0, R.0))

-- what lies below a position of a file's tree is part of that tree
module _ (file s : List ℕ) (w : For file s) where
  -- each entry below position i of layer k is one of the tree
  pub part_in_tree : (k i : ℕ) → k ≤ height_of s → i < 2 ^ (height_of s - k) → (e : Entry) → In e (subtree (leaf_of file) k (node_number (height_of s) k i) i) → In e (tree_of file)
  part_in_tree k i a b e x =
      let h = height_of s in
      let P = subtree_value (leaf_of file) k (node_number h k i) i e x in
      let r : P.layers ≤ k = P.reach in
      let q : node_number h k i * 2 ^ P.layers + P.offset ≡ node_number h (k - P.layers) (i * 2 ^ P.layers + P.offset) = number_below h k i P.layers P.offset a P.reach in
      let ex : h - k + P.layers ≡ h - (k - P.layers) = omega arith in
      let pw : 2 ^ (h - k) * 2 ^ P.layers ≡ 2 ^ (h - (k - P.layers)) = sym (lib.Pow.pow-add 2 (h - k) P.layers) ∙ ap (λ (z : ℕ). 2 ^ z) ex in
      let up : (i + 1) * 2 ^ P.layers ≤ 2 ^ (h - k) * 2 ^ P.layers = native.Mathlib.Nat.mul-le-mul_right (2 ^ P.layers) (omega arith) in
      let ib : i * 2 ^ P.layers + P.offset < 2 ^ (h - (k - P.layers)) = omega (arith, P.inside, native.Mathlib.Nat.add-mul i 1 (2 ^ P.layers), native.Mathlib.Nat.one-mul (2 ^ P.layers)) in
      let z = tree_has file s w (k - P.layers) (i * 2 ^ P.layers + P.offset) (omega arith) ib in
      rw (← same_height file s w)
      (has_same (subtree (leaf_of file) h 1 0) (node_number h (k - P.layers) (i * 2 ^ P.layers + P.offset)) e.at (node (leaf_of file) (k - P.layers) (i * 2 ^ P.layers + P.offset)) e.hash
      (sym q ∙ sym P.position) (sym P.value) z)

module _ (file s : List ℕ) (f : Facts s) (w : For file s) (i : ℕ) (l : i < piece_count (file_length s) (piece_length s)) where
  -- the piece length is 16384·2^p
  pub plen_form : piece_length s ≡ block_length * 2 ^ layer_of_pieces s
  unfolding layer_of_pieces
  plen_form = (piece_length_form (piece_length s) f.piece).1

  -- leaf x of the file's piece i is the file's
  pub piece_leaf : (x : ℕ) → x < 2 ^ piece_height s → leaf_of (piece_for file s i) x ≡ leaf_of file (i * 2 ^ piece_height s + x)
  piece_leaf = by (has_layer (file_length s) (piece_length s)) refl
    where
      by : (t : Bool) → has_layer (file_length s) (piece_length s) ≡ t → (x : ℕ) → x < 2 ^ piece_height s → leaf_of (piece_for file s i) x ≡ leaf_of file (i * 2 ^ piece_height s + x)
      by true t x b =
          let e = height_layer s f t in
          rw e (leaf_of_piece file (layer_of_pieces s) i x (rw e at b))
      by false t x b =
          let z = (piece_at_root s f i l t).0 in
          let n : file_length s ≤ piece_length s = ltb-false (piece_length s) (file_length s) (unfold has_layer in t) in
          let p : piece_of file (layer_of_pieces s) 0 ≡ file = one_piece file (layer_of_pieces s) (omega (arith, plen_form, w.long)) in
          let q0 : x ≡ 0 * 2 ^ piece_height s + x = omega arith in
          let q : x ≡ i * 2 ^ piece_height s + x = q0 ∙ ap (λ (y : ℕ). y * 2 ^ piece_height s + x) (sym z) in
          ap (λ (y : ℕ). leaf_of (piece_of file (layer_of_pieces s) y) x) z ∙ ap (λ (g : List ℕ). leaf_of g x) p ∙ ap (leaf_of file) q

  piece_alike : (node (leaf_of (piece_for file s i)) (piece_height s) 0 ≡ node (leaf_of file) (piece_height s) i)
      × (subtree (leaf_of (piece_for file s i)) (piece_height s) (node_number (height_of s) (piece_height s) i) 0 ≡ subtree (leaf_of file) (piece_height s) (node_number (height_of s) (piece_height s) i) i)
  piece_alike =
      subtree_alike (leaf_of (piece_for file s i)) (leaf_of file) (piece_height s) (node_number (height_of s) (piece_height s) i) 0 i
      (λ x b.
      let z : 0 * 2 ^ piece_height s + x ≡ x = omega arith in
      ap (leaf_of (piece_for file s i)) z ∙ piece_leaf x b)

  -- the file's piece has the size that the store asks for
  pub piece_size_is : length (piece_for file s i) ≡ piece_size (file_length s) (piece_length s) i
  piece_size_is = piece_bytes file (layer_of_pieces s) i ∙ ap₂ (λ (n p : ℕ). piece_size n p i) (sym w.long) (sym plen_form)

  piece_agrees : agrees s (tree_of file) ≡ true → agrees s (subtree (leaf_of (piece_for file s i)) (piece_height s) (node_number (height_of s) (piece_height s) i) 0) ≡ true
  piece_agrees g =
      let p = piece_in_lem s f i l in
      rw piece_alike.1
      (in_agrees s (subtree (leaf_of file) (piece_height s) (node_number (height_of s) (piece_height s) i) i)
      (λ e x. agrees_in s (tree_of file) g e (part_in_tree file s w (piece_height s) i p.layer p.inside e x)))

-- where the store agrees with the file's tree, the file's own piece, its node held, is answered 0
pub agreed_piece : {s : List ℕ} (file : List ℕ) (i : ℕ) → Facts s → For file s → i < piece_count (file_length s) (piece_length s) → agrees s (tree_of file) ≡ true
    → held_at s (node_number (height_of s) (piece_height s) i) ≡ true → piece_number s i (piece_for file s i) ≡ 0
agreed_piece {s} file i f w l g h =
    let p = piece_in_lem s f i l in
    right_piece s i (piece_for file s i)
    (record {
      store = facts_usable s f;
      inside = l;
      size = piece_size_is file s f w i l;
      node =
          record {
            held = h;
            alike = agreed_is file s w g (piece_height s) i p.layer p.inside h ∙ sym (piece_alike file s f w i l).0;
            agree = piece_agrees file s f w i l g;
          };
    })

-- THE FILE'S OWN PIECE, its node held, is answered 0, or a pair is shown
pub true_piece : {s : List ℕ} (file : List ℕ) (i : ℕ) → OurStore s → For file s → i < piece_count (file_length s) (piece_length s)
    → held_at s (node_number (height_of s) (piece_height s) i) ≡ true
    → ShownAt (height_of s) (held_by s) (of_file file) ⊎ (piece_number s i (piece_for file s i) ≡ 0)
true_piece {s} file i o w l h =
    elim (tree_agrees file s w (ours_have o).chained (ours_bytes o)) [ inl x ↦ inl x | inr g ↦ inr (agreed_piece file i (ours_have o).chained.facts w l g h) ]
