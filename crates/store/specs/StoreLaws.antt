-- What follows from the definitions of Store: what a usable store is sure of, what its facts rest on, what taking hashes leaves,
-- and how a newly opened store looks.
-- Assumes nothing.
use Rattle.std.specs.Prelude.{◌≡◌, Bool, ◌&&◌, ℕ, zero, suc, ◌+◌, ◌-◌, ◌*◌, ◌%◌, ◌^◌, ◌≤◌, ◌<◌, length, drop, ltb, List, [], ◌∷◌, ◌++◌}
use Rattle.std.proofs.Math.Path.{refl, ap, sym}
use Rattle.std.proofs.Common.{◌∙◌, inl, pow_pos, pow_mono, arith, le-leb, leb-true, ltb-true, ne_eqb}
use Rattle.std.proofs.Math.Bool.{true, false, and-eq-true_iff}
use Rattle.std.proofs.Math.Decide.{ℕ_discrete}
use Rattle.std.proofs.Math.ListN.{get_or, get_or-append}
use Rattle.std.proofs.Math.Seq.{get_or-append-add}
use Rattle.std.proofs.Math.Dec.{leb, eqb}
use Rattle.std.proofs.lemmas.Bool.{lt-leb}
use Rattle.octets.specs.Octets.{cut, pasted, be, number_at, zeroed}
use Rattle.octets.specs.OctetsLaws.{be_octets, cut_append_right, cut_cut, cut_pasted_other, cut_pasted_same, cut_size, get_or_cut, get_or_pasted_in, get_or_pasted_after, number_cut, number_of_be, number_same, pasted_length, zeroed_at, zeroed_length, zeroed_past}
use Rattle.numbers.specs.Numbers.{refused, done, rule_broken, no_anchor, unusable, facts_out_of_range}
use Rattle.tree.specs.Geometry.{block_length, block_count, height, node_number, piece_layer, is_piece_length}
use Rattle.tree.proofs.GeometryLaws.{block_count_some, block_outside, height_enough, height_grows, node_number_range, short_file_height}
use Rattle.cells.specs.Cells.{Room, held_at, hash_at, put}
use Rattle.cells.specs.CellsLaws.{put_length, put_room, put_outside, held_put_same, held_put_other, hash_put_same, unheld}
use Rattle.cells.specs.Entries.{Entry, put_all, one_if}
use Rattle.cells.specs.EntriesLaws.{Sound, none, more, FromRoot, empty, next, put_all_length}
use Rattle.limits.specs.Limits.{longest_file, tallest_tree}
use Rattle.store.specs.Store.{file_length, piece_length, facts_root, blocks_of, height_of, positions, facts_in_range, store_size, usable, size_answer, opened, open_answer, open_after, in_tree, no_hash, held_answer, Facts, SameFacts, fact_bytes}

-- ---- facts in range, and the size they fix

module _ (n plen : ℕ) where
  -- no byte is out of range
  pub range_none : n < 1 → false ≡ facts_in_range n plen
  unfolding facts_in_range
  range_none a = sym (simp (lt-leb 1 n a))

  -- so is more than the longest file
  pub range_long : 1 ≤ n → longest_file < n → false ≡ facts_in_range n plen
  unfolding facts_in_range
  range_long a b = sym (simp (le-leb 1 n a, lt-leb n longest_file b))

  -- otherwise the piece length decides
  pub range_piece : 1 ≤ n → n ≤ longest_file → is_piece_length plen ≡ facts_in_range n plen
  unfolding facts_in_range
  range_piece a b = sym (simp (le-leb 1 n a, le-leb n longest_file b))

  -- what facts in range say
  pub range_says : facts_in_range n plen ≡ true → (1 ≤ n) × (n ≤ longest_file) × (is_piece_length plen ≡ true)
  unfolding facts_in_range
  range_says t =
      let a = (and-eq-true_iff (leb 1 n && leb n longest_file) (is_piece_length plen)).0 t in
      let b = (and-eq-true_iff (leb 1 n) (leb n longest_file)).0 a.0 in
      (leb-true 1 n b.0, leb-true n longest_file b.1, a.1)

-- a piece length is at most 16 MiB
pub piece_length_most : (plen : ℕ) → is_piece_length plen ≡ true → plen ≤ 16777216
unfolding is_piece_length
piece_length_most plen t = leb-true plen 16777216 ((and-eq-true_iff (eqb (block_length * 2 ^ piece_layer plen) plen) (leb plen 16777216)).0 t).1

-- the longest file fills the tallest tree, so a file in range has at most as many blocks as that has leaves
pub blocks_most : (n : ℕ) → n ≤ longest_file → block_count n ≤ 2 ^ tallest_tree
blocks_most n l = block_outside n (2 ^ tallest_tree) (omega arith)

-- and no taller a tree
pub height_most : (n : ℕ) → n ≤ longest_file → height (block_count n) ≤ tallest_tree
height_most n l = short_file_height n tallest_tree (omega arith)

-- every tree has the root's number
pub positions_some : (h : ℕ) → 2 ≤ positions h
unfolding positions
positions_some h = omega (arith, pow_pos h)

-- the numbers below this are as many as twice the leaves, so it is even
pub positions_even : (h : ℕ) → positions h % 2 ≡ 0
unfolding positions
positions_even h = omega arith

-- no tree has more positions than the tallest
pub positions_most : (h : ℕ) → h ≤ tallest_tree → positions h ≤ 2 * 2 ^ tallest_tree
unfolding positions
positions_most h l = let w : 2 ^ h ≤ 2 ^ tallest_tree = pow_mono {i = h} {j = tallest_tree} l in omega arith

-- the cells of all positions lie within the store's size
pub cells_within : (n : ℕ) → 31 + 33 * positions (height (block_count n)) ≤ store_size n
unfolding store_size
cells_within n = omega (arith, positions_some (height (block_count n)))

-- behind them is a byte for each leaf
pub marks_within : (n : ℕ) → 31 + 33 * positions (height (block_count n)) + 2 ^ height (block_count n) ≡ store_size n
unfolding store_size
marks_within n = omega (arith, positions_some (height (block_count n)))

-- no store is shorter than the facts and the root's cell
pub store_size_some : (n : ℕ) → 97 ≤ store_size n
store_size_some n = omega (arith, cells_within n, positions_some (height (block_count n)))

-- a file of no more blocks has no larger store
pub store_size_grows : (n m : ℕ) → block_count n ≤ block_count m → store_size n ≤ store_size m
unfolding store_size positions
store_size_grows n m l =
    let w : 2 ^ height (block_count n) ≤ 2 ^ height (block_count m) = pow_mono {i = height (block_count n)} {j = height (block_count m)} (height_grows (block_count n) (block_count m) l) in
    omega arith

-- ---- what a usable store is sure of

-- the cells of a store's own positions lie within its size
pub own_cells : (s : List ℕ) → 31 + 33 * positions (height_of s) ≤ store_size (file_length s)
unfolding height_of blocks_of
own_cells s = cells_within (file_length s)

-- and so do the marks of its blocks
pub own_marks : (s : List ℕ) → 31 + 33 * positions (height_of s) + 2 ^ height_of s ≡ store_size (file_length s)
unfolding height_of blocks_of
own_marks s = marks_within (file_length s)

-- a usable store is sure of these
pub usable_facts : (s : List ℕ) → usable s ≡ true → Facts s
unfolding usable
usable_facts s t =
    let a = (and-eq-true_iff (leb 64 (length s) && facts_in_range (file_length s) (piece_length s)) (leb (store_size (file_length s)) (length s))).0 t in
    let b = (and-eq-true_iff (leb 64 (length s)) (facts_in_range (file_length s) (piece_length s))).0 a.0 in
    let r = range_says (file_length s) (piece_length s) b.1 in
    record {
      long = leb-true 64 (length s) b.0;
      some = r.0;
      most = r.1;
      piece = r.2;
      size = leb-true (store_size (file_length s)) (length s) a.1;
      room = omega (arith, leb-true (store_size (file_length s)) (length s) a.1, own_cells s);
    }

-- and, as the code tests it, its room
pub usable_long : (s : List ℕ) (t : Bool) → t ≡ usable s → t ≡ true → 64 ≤ length s
usable_long s t e f = (usable_facts s (sym e ∙ f)).long

-- and they are enough
pub facts_usable : (s : List ℕ) → Facts s → usable s ≡ true
unfolding usable
facts_usable s f =
    let r : facts_in_range (file_length s) (piece_length s) ≡ true = sym (range_piece (file_length s) (piece_length s) f.some f.most) ∙ f.piece in
    simp (le-leb 64 (length s) f.long, r, le-leb (store_size (file_length s)) (length s) f.size)

module _ (s : List ℕ) (f : Facts s) where
  -- the file has a block
  pub facts_blocks : 1 ≤ blocks_of s
  unfolding blocks_of
  facts_blocks = block_count_some (file_length s) f.some

  -- and no more than the tallest tree has leaves
  pub facts_blocks_most : blocks_of s ≤ 2 ^ tallest_tree
  unfolding blocks_of
  facts_blocks_most = blocks_most (file_length s) f.most

  -- its tree is no taller
  pub facts_height : height_of s ≤ tallest_tree
  unfolding height_of blocks_of
  facts_height = height_most (file_length s) f.most

  -- and has no more positions
  pub facts_positions : positions (height_of s) ≤ 2 * 2 ^ tallest_tree
  facts_positions = positions_most (height_of s) facts_height

  -- the leaves reach for every block
  pub facts_leaves : blocks_of s ≤ 2 ^ height_of s
  unfolding height_of
  facts_leaves = height_enough (blocks_of s)

  -- every position has its cell
  pub facts_cell : (q : ℕ) → q < positions (height_of s) → Room (q + 1) s
  facts_cell q b = omega (arith, f.room)

-- ---- case by case

module _ (s : List ℕ) where
  -- a buffer without room for the facts is unusable
  pub usable_short : length s < 64 → false ≡ usable s
  unfolding usable
  usable_short a = sym (simp (lt-leb 64 (length s) a))

  -- so is one with facts out of range
  pub usable_not : facts_in_range (file_length s) (piece_length s) ≡ false → false ≡ usable s
  unfolding usable
  usable_not a = sym (rw a (no (leb 64 (length s)) (leb (store_size (file_length s)) (length s))))
    where
      no : (x y : Bool) → (x && false && y) ≡ false
      no true y = refl
      no false y = refl

  -- otherwise the room decides
  pub usable_room : 64 ≤ length s → facts_in_range (file_length s) (piece_length s) ≡ true → leb (store_size (file_length s)) (length s) ≡ usable s
  unfolding usable
  usable_room a b = sym (simp (le-leb 64 (length s) a, b))

module _ (n plen : ℕ) where
  -- facts in range are answered with the size
  pub size_given : facts_in_range n plen ≡ true → done (store_size n) ≡ size_answer n plen
  unfolding size_answer
  size_given a = sym (simp a)

  -- others with 10
  pub size_refused : facts_in_range n plen ≡ false → refused facts_out_of_range ≡ size_answer n plen
  unfolding size_answer
  size_refused a = sym (simp a)

module _ (s : List ℕ) (n plen : ℕ) (root : List ℕ) where
  -- opening with facts out of range is answered 10, and leaves the buffer
  pub open_facts : facts_in_range n plen ≡ false → (refused facts_out_of_range ≡ open_answer s n plen) × (s ≡ open_after s n plen root)
  unfolding open_answer open_after
  open_facts a = (sym (simp a), sym (simp a))

  -- too little room is answered 9, and leaves the buffer
  pub open_short : facts_in_range n plen ≡ true → length s < store_size n → (refused unusable ≡ open_answer s n plen) × (s ≡ open_after s n plen root)
  unfolding open_answer open_after
  open_short a b = (sym (simp (a, lt-leb (store_size n) (length s) b)), sym (simp (a, lt-leb (store_size n) (length s) b)))

  -- otherwise the store is opened, and the count is 1
  pub open_done : facts_in_range n plen ≡ true → store_size n ≤ length s → (done 1 ≡ open_answer s n plen) × (opened s n plen root ≡ open_after s n plen root)
  unfolding open_answer open_after
  open_done a b = (sym (simp (a, le-leb (store_size n) (length s) b)), sym (simp (a, le-leb (store_size n) (length s) b)))

module _ (h l i : ℕ) where
  -- no position lies above layer h
  pub tree_low : h < l → false ≡ in_tree h l i
  unfolding in_tree
  tree_low a = sym (simp (lt-leb l h a))

  -- a position that the tree has
  pub tree_says : in_tree h l i ≡ true → (l ≤ h) × (i < 2 ^ (h - l))
  unfolding in_tree
  tree_says t =
      let a = (and-eq-true_iff (leb l h) (ltb i (2 ^ (h - l)))).0 t in
      (leb-true l h a.0, ltb-true i (2 ^ (h - l)) a.1)

  -- has a number among its positions
  pub tree_number_lem : in_tree h l i ≡ true → (1 ≤ node_number h l i) × (node_number h l i < positions h)
  unfolding positions
  tree_number_lem t = node_number_range h l i (tree_says t).1

module _ (s : List ℕ) (l i : ℕ) where
  -- an unusable store is answered 9
  pub held_unusable : usable s ≡ false → no_hash unusable ≡ held_answer s l i
  unfolding held_answer
  held_unusable a = sym (simp a)

  -- a position that the tree has not, 3
  pub held_outside : usable s ≡ true → in_tree (height_of s) l i ≡ false → no_hash rule_broken ≡ held_answer s l i
  unfolding held_answer
  held_outside a b = sym (simp (a, b))

  -- one that is not held, 6
  pub held_not : usable s ≡ true → in_tree (height_of s) l i ≡ true → held_at s (node_number (height_of s) l i) ≡ false → no_hash no_anchor ≡ held_answer s l i
  unfolding held_answer
  held_not a b c = sym (simp (a, b, c))

  -- a held one with its hash
  pub held_given : usable s ≡ true → in_tree (height_of s) l i ≡ true → held_at s (node_number (height_of s) l i) ≡ true
      → record { number = 0; hash = hash_at s (node_number (height_of s) l i) } ≡ held_answer s l i
  unfolding held_answer
  held_given a b c = sym (simp (a, b, c))

-- ---- what the facts rest on

module _ (s t : List ℕ) (e : fact_bytes t ≡ fact_bytes s) where
  same_file : file_length t ≡ file_length s
  unfolding file_length
  same_file = sym (number_cut t 0 64 0 8 (omega arith)) ∙ ap (λ (l : List ℕ). number_at l 0 8) e ∙ number_cut s 0 64 0 8 (omega arith)

  same_piece : piece_length t ≡ piece_length s
  unfolding piece_length
  same_piece = sym (number_cut t 0 64 8 4 (omega arith)) ∙ ap (λ (l : List ℕ). number_at l 8 4) e ∙ number_cut s 0 64 8 4 (omega arith)

  same_root : facts_root t ≡ facts_root s
  unfolding facts_root
  same_root = sym (cut_cut t 0 64 12 32 (omega arith)) ∙ ap (λ (l : List ℕ). cut l 12 32) e ∙ cut_cut s 0 64 12 32 (omega arith)

  same_blocks : blocks_of t ≡ blocks_of s
  unfolding blocks_of
  same_blocks = ap block_count same_file

  same_layers : height_of t ≡ height_of s
  unfolding height_of
  same_layers = ap height same_blocks

  -- the first 64 bytes name the facts
  pub same_facts : SameFacts s t
  same_facts = record { file = same_file; piece = same_piece; root = same_root; blocks = same_blocks; layers = same_layers }

  -- a buffer with a usable store's facts and its size is usable
  pub facts_same : Facts s → store_size (file_length s) ≤ length t → Facts t
  facts_same f l =
      let p : positions (height_of t) ≡ positions (height_of s) = ap positions same_layers in
      let c = own_cells s in
      record {
        long = omega (arith, positions_some (height_of s));
        some = rw same_file f.some;
        most = rw same_file f.most;
        piece = rw same_piece f.piece;
        size = rw same_file l;
        room = omega arith;
      }

-- a store and a buffer with the same bytes in the store's size: bytes past them decide nothing
module _ (s t : List ℕ) (f : Facts s) (e : cut t 0 (store_size (file_length s)) ≡ cut s 0 (store_size (file_length s))) where
  used_length : store_size (file_length s) ≤ length t
  used_length =
      let k : length (cut t 0 (store_size (file_length s))) ≡ length (cut s 0 (store_size (file_length s))) = ap length e in
      omega (arith, cut_size t 0 (store_size (file_length s)), cut_size s 0 (store_size (file_length s)), f.size)

  part_same : (a n : ℕ) → a + n ≤ store_size (file_length s) → cut t a n ≡ cut s a n
  part_same a n l =
      let z : 0 + a ≡ a = omega arith in
      let g : (u : List ℕ) → cut (cut u 0 (store_size (file_length s))) a n ≡ cut u a n = λ u. cut_cut u 0 (store_size (file_length s)) a n l ∙ ap (λ (x : ℕ). cut u x n) z in
      sym (g t) ∙ ap (λ (u : List ℕ). cut u a n) e ∙ g s

  pub byte_same : (i : ℕ) → i < store_size (file_length s) → get_or t i 0 ≡ get_or s i 0
  byte_same i l =
      let z : 0 + i ≡ i = omega arith in
      let g : (u : List ℕ) → get_or (cut u 0 (store_size (file_length s))) i 0 ≡ get_or u i 0 = λ u. get_or_cut u 0 (store_size (file_length s)) i l ∙ ap (λ (x : ℕ). get_or u x 0) z in
      sym (g t) ∙ ap (λ (u : List ℕ). get_or u i 0) e ∙ g s

  used_bytes : fact_bytes t ≡ fact_bytes s
  used_bytes = part_same 0 64 (omega (arith, store_size_some (file_length s)))

  -- it names the same facts,
  pub used_same : SameFacts s t
  used_same = same_facts s t used_bytes

  -- is usable,
  pub used_facts : Facts t
  used_facts = facts_same s t used_bytes f used_length

  -- holds the same positions,
  pub used_held : (q : ℕ) → q < positions (height_of s) → held_at t q ≡ held_at s q
  unfolding held_at
  used_held q b = ap (λ (x : ℕ). eqb x 1) (byte_same (31 + 33 * q) (omega (arith, own_cells s)))

  -- with the same hashes,
  pub used_hash : (q : ℕ) → q < positions (height_of s) → hash_at t q ≡ hash_at s q
  unfolding hash_at
  used_hash q b = part_same (32 + 33 * q) 32 (omega (arith, own_cells s))

  -- and so answers the same
  pub used_answer : (l i : ℕ) → held_answer t l i ≡ held_answer s l i
  used_answer l i = by_place (in_tree (height_of s) l i) refl
    where
      us : usable s ≡ true
      us = facts_usable s f

      ut : usable t ≡ true
      ut = facts_usable t used_facts

      there : in_tree (height_of t) l i ≡ in_tree (height_of s) l i
      there = ap (λ (h : ℕ). in_tree h l i) used_same.layers

      place : node_number (height_of t) l i ≡ node_number (height_of s) l i
      place = ap (λ (h : ℕ). node_number h l i) used_same.layers

      by_held : in_tree (height_of s) l i ≡ true → (b : Bool) → held_at s (node_number (height_of s) l i) ≡ b → held_answer t l i ≡ held_answer s l i
      by_held x false y =
          let w = used_held (node_number (height_of s) l i) (tree_number_lem (height_of s) l i x).1 in
          sym (held_not t l i ut (there ∙ x) (ap (held_at t) place ∙ w ∙ y)) ∙ held_not s l i us x y
      by_held x true y =
          let w = used_held (node_number (height_of s) l i) (tree_number_lem (height_of s) l i x).1 in
          let v = used_hash (node_number (height_of s) l i) (tree_number_lem (height_of s) l i x).1 in
          sym (held_given t l i ut (there ∙ x) (ap (held_at t) place ∙ w ∙ y))
          ∙ ap (λ (g : List ℕ). record { number = 0; hash = g }) (ap (hash_at t) place ∙ v)
          ∙ held_given s l i us x y

      by_place : (b : Bool) → in_tree (height_of s) l i ≡ b → held_answer t l i ≡ held_answer s l i
      by_place false x = sym (held_outside t l i ut (there ∙ x)) ∙ held_outside s l i us x
      by_place true x = by_held x (held_at s (node_number (height_of s) l i)) refl

-- ---- what taking hashes leaves

put_bytes : (s : List ℕ) (N n : ℕ) (h : List ℕ) → Room N s → 1 ≤ n → n < N → length h ≡ 32 → fact_bytes (put s n h) ≡ fact_bytes s
unfolding put
put_bytes s N n h room low below size =
    cut_pasted_other s (31 + 33 * n) (1 ∷ h) (omega arith) 0 64 (omega arith) (inl (omega arith))

put_all_bytes : (N : ℕ) (L : List Entry) (s : List ℕ) → Room N s → Sound N L → FromRoot L → fact_bytes (put_all s L) ≡ fact_bytes s
unfolding put_all
put_all_bytes N [] s room none empty = refl
put_all_bytes N (e ∷ L) s room (more i l S) (next a p) =
    put_all_bytes N L (put s e.at e.hash) (put_room s N e.at room i e.hash l) S p ∙ put_bytes s N e.at e.hash room a i l

module _ (s : List ℕ) (f : Facts s) (n : ℕ) (low : 1 ≤ n) (below : n < positions (height_of s)) (h : List ℕ) (size : length h ≡ 32) where
  -- a position that becomes held changes no byte of the facts
  pub put_fact_bytes : fact_bytes (put s n h) ≡ fact_bytes s
  put_fact_bytes = put_bytes s (positions (height_of s)) n h f.room low below size

  -- length, piece length, root, blocks and height stay
  pub put_same_facts : SameFacts s (put s n h)
  put_same_facts = same_facts s (put s n h) put_fact_bytes

  -- and leaves the store usable
  pub put_facts : Facts (put s n h)
  put_facts = facts_same s (put s n h) put_fact_bytes f (omega (arith, put_length s (positions (height_of s)) n f.room below h size, f.size))

module _ (s : List ℕ) (f : Facts s) (L : List Entry) (sound : Sound (positions (height_of s)) L) (from : FromRoot L) where
  -- any list of entries changes no byte of the facts
  pub put_all_fact_bytes : fact_bytes (put_all s L) ≡ fact_bytes s
  put_all_fact_bytes = put_all_bytes (positions (height_of s)) L s f.room sound from

  -- nor a fact
  pub put_all_same_facts : SameFacts s (put_all s L)
  put_all_same_facts = same_facts s (put_all s L) put_all_fact_bytes

  -- and leaves the store usable
  pub put_all_facts : Facts (put_all s L)
  put_all_facts = facts_same s (put_all s L) put_all_fact_bytes f (omega (arith, put_all_length (positions (height_of s)) L s f.room sound, f.size))

  -- so usable is what it was
  pub put_all_usable : usable (put_all s L) ≡ usable s
  put_all_usable = facts_usable (put_all s L) put_all_facts ∙ sym (facts_usable s f)

-- bytes past the cells below N stay
pub put_all_past : (N : ℕ) (L : List Entry) (s : List ℕ) → Room N s → Sound N L → (i : ℕ) → 31 + 33 * N ≤ i → get_or (put_all s L) i 0 ≡ get_or s i 0
unfolding put_all
put_all_past N [] s room none i l = refl
put_all_past N (e ∷ L) s room (more b z S) i l =
    put_all_past N L (put s e.at e.hash) (put_room s N e.at room b e.hash z) S i l
    ∙ put_outside s N e.at room b e.hash z i (λ c. omega arith)

-- ---- a newly opened store

-- how many of the positions 1 to k are held
unfoldable pub held_count : ℕ → List ℕ → ℕ
held_count zero s = 0
held_count (suc k) s = held_count k s + one_if (held_at s (suc k))

-- where the root alone is held, one is
count_one : (s : List ℕ) (k : ℕ) → 1 ≤ k → ((q : ℕ) → 1 ≤ q → q ≤ k → held_at s q ≡ eqb q 1) → held_count k s ≡ 1
unfolding held_count
count_one s zero a f = absurd (omega arith)
count_one s (suc zero) a f = omega (arith, ap one_if (f 1 (omega arith) (omega arith)))
count_one s (suc (suc k)) a f =
    let e : eqb (suc (suc k)) 1 ≡ false = ne_eqb (suc (suc k)) 1 (λ q. omega arith) in
    omega (arith, count_one s (suc k) (omega arith) (λ q x y. f q x (omega arith)), ap one_if (f (suc (suc k)) (omega arith) (omega arith) ∙ e))

-- opening forgets everything: of the buffer only the bytes past the store's size matter
pub opened_forgets : (s t : List ℕ) (n plen : ℕ) (root : List ℕ) → drop (store_size n) s ≡ drop (store_size n) t → opened s n plen root ≡ opened t n plen root
unfolding opened zeroed
opened_forgets s t n plen root e = rw e

module _ (s : List ℕ) (n plen : ℕ) (root : List ℕ) (ok : facts_in_range n plen ≡ true) (fits : store_size n ≤ length s) (size : length root ≡ 32) where
  -- the facts as bytes
  named : List ℕ
  named = be 8 n ++ (be 4 plen ++ root)

  named_length : length named ≡ 44
  unfolding named
  named_length = omega arith

  -- the store with its facts, before the root is held
  bare : List ℕ
  bare = pasted (zeroed s (store_size n)) 0 named

  zero_length : length (zeroed s (store_size n)) ≡ length s
  zero_length = zeroed_length s (store_size n) fits

  named_fits : 0 + length named ≤ length (zeroed s (store_size n))
  named_fits = omega (arith, named_length, zero_length, store_size_some n)

  bare_length : length bare ≡ length s
  unfolding bare
  bare_length = pasted_length (zeroed s (store_size n)) 0 named named_fits ∙ zero_length

  bare_room : Room (positions (height (block_count n))) bare
  bare_room = omega (arith, bare_length, cells_within n)

  two : 1 < positions (height (block_count n))
  two = positions_some (height (block_count n))

  bare_named : (i : ℕ) → i < 44 → get_or bare i 0 ≡ get_or named i 0
  unfolding bare
  bare_named i l =
      let z : 0 + i ≡ i = omega arith in
      ap (λ (j : ℕ). get_or (pasted (zeroed s (store_size n)) 0 named) j 0) (sym z) ∙ get_or_pasted_in (zeroed s (store_size n)) 0 named named_fits i (omega (arith, named_length))

  bare_past : (i : ℕ) → 44 ≤ i → get_or bare i 0 ≡ get_or (zeroed s (store_size n)) i 0
  unfolding bare
  bare_past i l = get_or_pasted_after (zeroed s (store_size n)) 0 named named_fits i (omega (arith, named_length))

  opened_bytes : fact_bytes (opened s n plen root) ≡ fact_bytes bare
  unfolding opened bare named
  opened_bytes = put_bytes bare (positions (height (block_count n))) 1 root bare_room (omega arith) two size

  same_as_bare : SameFacts bare (opened s n plen root)
  same_as_bare = same_facts bare (opened s n plen root) opened_bytes

  -- it names the length it was opened with,
  pub opened_file : file_length (opened s n plen root) ≡ n
  opened_file = same_as_bare.file ∙ read
    where
      read : file_length bare ≡ n
      read = unfold file_length in
          number_same bare (be 8 n) 0 0 8
          (λ i l. bare_named (0 + i) (omega arith) ∙ (unfold named in get_or-append (be 8 n) (be 4 plen ++ root) 0 (0 + i) (omega (arith, (be_octets 8 n).size))))
          ∙ number_of_be 8 n (omega (arith, (range_says n plen ok).1))

  -- the piece length
  pub opened_piece : piece_length (opened s n plen root) ≡ plen
  opened_piece = same_as_bare.piece ∙ read
    where
      read : piece_length bare ≡ plen
      read = unfold piece_length in
          number_same bare (be 4 plen) 8 0 4
          (λ i l.
          let z : 0 + i ≡ i = omega arith in
          let g : get_or named (8 + i) 0 ≡ get_or (be 4 plen ++ root) i 0 = unfold named in get_or-append-add (be 8 n) (be 4 plen ++ root) i 0 in
          bare_named (8 + i) (omega arith)
          ∙ g
          ∙ get_or-append (be 4 plen) root 0 i (omega (arith, (be_octets 4 plen).size))
          ∙ ap (λ (j : ℕ). get_or (be 4 plen) j 0) (sym z))
          ∙ number_of_be 4 plen (omega (arith, piece_length_most plen (range_says n plen ok).2))

  -- and the root
  pub opened_facts_root : facts_root (opened s n plen root) ≡ root
  opened_facts_root = same_as_bare.root ∙ read
    where
      read : facts_root bare ≡ root
      read = unfold facts_root bare in
          sym (cut_cut (pasted (zeroed s (store_size n)) 0 named) 0 44 12 32 (omega arith))
          ∙ ap (λ (l : List ℕ). cut l 12 32) (cut_pasted_same (zeroed s (store_size n)) 0 named 44 named_length (omega (arith, named_fits, named_length)))
          ∙ (unfold named in cut_append_right (be 8 n ++ be 4 plen) root 12 32 refl size)

  -- so it has the blocks of the file
  pub opened_blocks : blocks_of (opened s n plen root) ≡ block_count n
  unfolding blocks_of
  opened_blocks = ap block_count opened_file

  -- and the height
  pub opened_height : height_of (opened s n plen root) ≡ height (block_count n)
  unfolding height_of
  opened_height = ap height opened_blocks

  -- it is as long as the buffer was
  pub opened_length : length (opened s n plen root) ≡ length s
  unfolding opened bare named
  opened_length = put_length bare (positions (height (block_count n))) 1 bare_room two root size ∙ bare_length

  -- and usable
  pub opened_facts : Facts (opened s n plen root)
  opened_facts =
      let r = range_says n plen ok in
      let p : positions (height_of (opened s n plen root)) ≡ positions (height (block_count n)) = ap positions opened_height in
      record {
        long = omega (arith, opened_length, store_size_some n);
        some = rw opened_file r.0;
        most = rw opened_file r.1;
        piece = rw opened_piece r.2;
        size = rw opened_file (omega (arith, opened_length));
        room = omega (arith, opened_length, cells_within n);
      }

  -- as its answers see it
  pub opened_usable : usable (opened s n plen root) ≡ true
  opened_usable = facts_usable (opened s n plen root) opened_facts

  bare_unheld : (q : ℕ) → 1 ≤ q → q < positions (height (block_count n)) → held_at bare q ≡ false
  bare_unheld q a b =
      unheld bare q (bare_past (31 + 33 * q) (omega arith) ∙ zeroed_at s (store_size n) (31 + 33 * q) (omega (arith, cells_within n)))

  -- the root alone is held,
  pub opened_held : (q : ℕ) → 1 ≤ q → q < positions (height (block_count n)) → held_at (opened s n plen root) q ≡ eqb q 1
  unfolding opened bare named
  opened_held q a b =
      elim (ℕ_discrete q 1) [
        | yes e ↦ rw e (held_put_same bare (positions (height (block_count n))) 1 bare_room two root size)
        | no ne ↦ held_put_other bare (positions (height (block_count n))) 1 bare_room two root size q ne ∙ bare_unheld q a b ∙ sym (ne_eqb q 1 ne)
      ]

  -- with the root's hash
  pub opened_hash : hash_at (opened s n plen root) 1 ≡ root
  unfolding opened bare named
  opened_hash = hash_put_same bare (positions (height (block_count n))) 1 bare_room two root size

  -- every byte behind the root's cell is zero, up to the store's size
  pub opened_zero : (i : ℕ) → 97 ≤ i → i < store_size n → get_or (opened s n plen root) i 0 ≡ 0
  unfolding opened bare named
  opened_zero i a l =
      put_outside bare (positions (height (block_count n))) 1 bare_room two root size i (λ c. omega arith)
      ∙ bare_past i (omega arith)
      ∙ zeroed_at s (store_size n) i l

  -- and so are those between the facts and the first cell
  pub opened_spare : (i : ℕ) → 44 ≤ i → i < 64 → get_or (opened s n plen root) i 0 ≡ 0
  unfolding opened bare named
  opened_spare i a l =
      put_outside bare (positions (height (block_count n))) 1 bare_room two root size i (λ c. omega arith)
      ∙ bare_past i a
      ∙ zeroed_at s (store_size n) i (omega (arith, store_size_some n))

  -- bytes past the store's size stay
  pub opened_past : (i : ℕ) → store_size n ≤ i → get_or (opened s n plen root) i 0 ≡ get_or s i 0
  unfolding opened bare named
  opened_past i l =
      put_outside bare (positions (height (block_count n))) 1 bare_room two root size i (λ c. omega (arith, cells_within n, two))
      ∙ bare_past i (omega (arith, store_size_some n))
      ∙ zeroed_past s (store_size n) i fits l

  -- the count of an opening: of all positions one is held
  pub opened_count : held_count (positions (height (block_count n)) - 1) (opened s n plen root) ≡ 1
  opened_count =
      count_one (opened s n plen root) (positions (height (block_count n)) - 1) (omega (arith, two))
      (λ q a b. opened_held q a (omega (arith, two)))
