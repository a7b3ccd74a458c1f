-- What the message is to the store that it was made on: well-formed, its hashes the piece's own leaves, and taken.
-- Assumes nothing.
use Rattle.std.specs.Prelude.{◌≡◌, Bool, true, false, cond, ◌&&◌, ℕ, zero, suc, ◌+◌, ◌-◌, ◌*◌, ◌/◌, ◌^◌, ◌≤◌, ◌<◌, leb, List, [], ◌++◌}
use Rattle.std.proofs.Math.Path.{refl, ap, ap₂}
use Rattle.std.proofs.Common.{sym, ◌∙◌, mul_assoc, mul_comm, zero-mul, mul-div_cancel, pow_mono, pow_pos, append-nil, arith, eq-eqb, le-leb, leb-true, le-ltb, ltb-false}
use Rattle.std.proofs.Math.Nat.{mul-mod_left}
use Rattle.std.proofs.Math.ListN.{length}
use Rattle.octets.specs.Octets.{cut, same, zero_hash}
use Rattle.octets.specs.OctetsLaws.{cut_append_right, same_eq}
use Rattle.limits.specs.Limits.{tallest_tree}
use Rattle.tree.specs.Geometry.{block_length, ceil_div, block_count, covering, node_number, piece_size, has_layer, piece_count}
use Rattle.tree.proofs.GeometryLaws.{ceil_least, ceil_enough, height_pow, height_least, piece_length_form}
use Rattle.tree.specs.Values.{node, leaf_of, pad_value}
use Rattle.tree.proofs.ValuesLaws.{node_same, leaf_octets}
use Rattle.cells.specs.Cells.{hash_at}
use Rattle.cells.specs.Entries.{Entry}
use Rattle.store.specs.Store.{file_length, piece_length, facts_root, blocks_of, height_of, Facts}
use Rattle.store.specs.StoreLaws.{usable_facts, facts_height}
use Rattle.settling.specs.Subtree.{subtree}
use Rattle.settling.specs.SubtreeLaws.{subtree_same, run_leaf_in}
use Rattle.settling.specs.Path.{ancestor, risen, path}
use Rattle.header.specs.declared.Header.{Header}
use Rattle.header.specs.declared.Place.{Place}
use Rattle.header.specs.Header.{hashes_id, header_size, message_id, message_root, header_of, is_hashes, Kept, Small, place_of, message_size}
use Rattle.header.specs.HeaderLaws.{kept_rules}
use Rattle.messages.specs.Take.{header_number, run_of, uncles_of, given, settled, anchor, worked, padded, anchored, body_number, place_in, take_number}
use Rattle.messages.specs.Padded.{all_from, run_padded, uncles_padded}
use Rattle.messages.specs.TakeLaws.{passes}
use Rattle.pieces.specs.Asks.{PieceIn}
use Rattle.pieces.specs.Pieces.{layer_of_pieces, piece_height, piece_number}
use Rattle.pieces.proofs.PiecesLaws.{height_layer, height_root, one_piece_only, piece_in_lem, RightPiece, piece_right, piece_length_by_layer}
use Rattle.leaves.specs.Leaves.{leaf_run, head_of, run_over, leaf_message}
use Rattle.leaves.specs.LeavesLaws.{run_length, run_at, run_inside, head_length, message_root_lem, message_header, message_length, root_size}

-- ---- how high a piece's node stands, and how many of its leaves are blocks

module _ (s : List ℕ) (f : Facts s) where
  layer_most : layer_of_pieces s ≤ 10
  unfolding layer_of_pieces
  layer_most = (piece_length_form (piece_length s) f.piece).0

  short_file : has_layer (file_length s) (piece_length s) ≡ false → height_of s ≤ layer_of_pieces s
  unfolding height_of blocks_of block_count has_layer
  short_file t =
      height_least (ceil_div (file_length s) block_length) (layer_of_pieces s)
      (ceil_least (file_length s) block_length (2 ^ layer_of_pieces s) (omega arith) (omega (arith, piece_length_by_layer s f, ltb-false (piece_length s) (file_length s) t)))

  -- a piece has at most 1024 blocks
  pub node_low : piece_height s ≤ 10
  node_low = by (has_layer (file_length s) (piece_length s)) refl
    where
      by : (t : Bool) → has_layer (file_length s) (piece_length s) ≡ t → piece_height s ≤ 10
      by true t = omega (arith, height_layer s f t, layer_most)
      by false t = omega (arith, height_root s f t, short_file t, layer_most)

  -- the blocks of piece i end with the file's
  blocks_within : (i n : ℕ) → n ≤ file_length s - block_length * (i * 2 ^ piece_height s) → block_count n ≤ blocks_of s - i * 2 ^ piece_height s
  unfolding blocks_of block_count
  blocks_within i n l =
      ceil_least n block_length (ceil_div (file_length s) block_length - i * 2 ^ piece_height s) (omega arith)
      (omega (arith, ceil_enough (file_length s) block_length (ceil_div (file_length s) block_length) (omega arith) (omega arith)))

  size_most : (n plen i : ℕ) → piece_size n plen i ≤ n - plen * i
  unfolding piece_size
  size_most n plen i = omega arith

  pub piece_blocks : (i : ℕ) → i < piece_count (file_length s) (piece_length s) → (n : ℕ) → n ≡ piece_size (file_length s) (piece_length s) i
      → block_count n ≤ blocks_of s - i * 2 ^ piece_height s
  piece_blocks i l n e = by (has_layer (file_length s) (piece_length s)) refl
    where
      by : (t : Bool) → has_layer (file_length s) (piece_length s) ≡ t → block_count n ≤ blocks_of s - i * 2 ^ piece_height s
      by true t =
          let p : piece_length s * i ≡ block_length * (2 ^ layer_of_pieces s * i) = ap (λ (y : ℕ). y * i) (piece_length_by_layer s f) ∙ mul_assoc block_length (2 ^ layer_of_pieces s) i in
          let h : 2 ^ piece_height s ≡ 2 ^ layer_of_pieces s = ap (λ (y : ℕ). 2 ^ y) (height_layer s f t) in
          let c : i * 2 ^ piece_height s ≡ 2 ^ layer_of_pieces s * i = ap (λ (y : ℕ). i * y) h ∙ mul_comm i (2 ^ layer_of_pieces s) in
          blocks_within i n (omega (arith, size_most (file_length s) (piece_length s) i))
      by false t =
          let o = one_piece_only s f t in
          let z : i ≡ 0 = omega arith in
          let c : i * 2 ^ piece_height s ≡ 0 = ap (λ (y : ℕ). y * 2 ^ piece_height s) z ∙ zero-mul (2 ^ piece_height s) in
          blocks_within i n (omega (arith, size_most (file_length s) (piece_length s) i))

-- ---- leaves past the blocks are zero

leaf_past : (piece : List ℕ) (j : ℕ) → block_count (length piece) ≤ j → leaf_of piece j ≡ zero_hash
unfolding leaf_of
leaf_past piece j l = rw (le-ltb j (block_count (length piece)) l) refl

pub all_from_lem : (run v : List ℕ) (from n : ℕ) → ((j : ℕ) → from ≤ j → j < n → cut run (32 * j) 32 ≡ v) → all_from run v from n ≡ true
unfolding all_from
all_from_lem run v from zero h = refl
all_from_lem run v from (suc n) h =
    ap₂ (λ (x y : Bool). x && y) (all_from_lem run v from n (λ j a b. h j a (omega arith))) (by (leb from n) refl)
  where
    by : (t : Bool) → leb from n ≡ t → cond (leb from n) (same (cut run (32 * n) 32) v) true ≡ true
    by true e = rw e (same_eq (cut run (32 * n) 32) v (h n (leb-true from n e) (omega arith)))
    by false e = rw e

-- ---- no uncles

no_climb : (hashes v : List ℕ) (n : ℕ) → (risen hashes 0 0 n v ≡ v) × (path hashes 0 0 n v ≡ []) × (ancestor 0 n ≡ n)
unfolding risen path ancestor
no_climb hashes v n = (refl, refl, refl)

no_uncles : (hashes : List ℕ) (b l x : ℕ) → uncles_padded hashes b 0 0 l x ≡ true
unfolding uncles_padded
no_uncles hashes b l x = refl

covering_leaves : (b : ℕ) → covering b 0 ≡ b
unfolding covering ceil_div
covering_leaves b = omega arith

-- a run without uncles has its own hashes alone
sized : (index len : ℕ) → message_size (run_over index len) ≡ header_size + 32 * len
unfolding message_size
sized index len = omega arith

-- and stands at the node above it
placed : (h k i : ℕ) → place_of (run_over (i * 2 ^ k) (2 ^ k)) h ≡ record { k = k; u = 0; top = node_number h k i }
unfolding place_of
placed h k i =
    let n : 0 + k ≡ k = omega arith in
    let u : 0 - (k - 1) ≡ 0 = omega arith in
    rw (height_pow k, mul-div_cancel i (pow_pos k), n, u) refl

module _ (s : List ℕ) (i : ℕ) (piece : List ℕ) (z : piece_number s i piece ≡ 0) (some : piece_height s ≡ 0 → ⊥) where
  R : RightPiece s i piece
  R = piece_right s i piece z

  f : Facts s
  f = usable_facts s R.store

  P : PieceIn s i
  P = piece_in_lem s f i R.inside

  abbrev k : ℕ
  k = piece_height s

  abbrev x : Header
  x = run_over (i * 2 ^ k) (2 ^ k)

  abbrev m : List ℕ
  m = leaf_message s i piece

  inside : i * 2 ^ k + 2 ^ k ≤ 2 ^ height_of s
  inside = run_inside (height_of s) k i P.layer P.inside

  small : Small x
  small =
      let w : 2 ^ height_of s ≤ 2 ^ tallest_tree = pow_mono {i = height_of s} {j = tallest_tree} (facts_height s f) in
      record { base = omega arith; index = omega (arith, inside); len = omega (arith, inside); proof = omega arith }

  -- it has this header
  pub header_is : header_of m ≡ x
  unfolding leaf_message
  header_is = message_header (facts_root s) x (root_size s f) small (leaf_run (leaf_of piece) (2 ^ k))

  pub root_is : message_root m ≡ facts_root s
  unfolding leaf_message
  root_is = message_root_lem (facts_root s) x (root_size s f) small (leaf_run (leaf_of piece) (2 ^ k))

  size_is : length m ≡ header_size + 32 * 2 ^ k
  size_is = message_length s i piece (root_size s f) (λ j. (leaf_octets piece j).size)

  first_is : message_id m ≡ hashes_id
  unfolding leaf_message head_of
  first_is = refl

  pub is_hashes_lem : is_hashes m ≡ true
  unfolding is_hashes
  is_hashes_lem = rw (le-leb header_size (length m) (omega (arith, size_is)), eq-eqb (message_id m) hashes_id first_is)

  pub rules : Kept x (height_of s)
  rules =
      let e = height_pow k in
      let w : 2 ^ 1 ≤ 2 ^ k = pow_mono {i = 1} {j = k} (omega (arith, some)) in
      let v : 2 ^ k ≤ 2 ^ 10 = pow_mono {i = k} {j = 10} (node_low s f) in
      let q : height_of s - 0 ≡ height_of s = omega arith in
      let d : 2 ^ (height_of s - 0) ≡ 2 ^ height_of s = ap (λ (y : ℕ). 2 ^ y) q in
      record {
        power = ap (λ (y : ℕ). 2 ^ y) e;
        two = omega arith;
        most = omega arith;
        multiple = mul-mod_left i (2 ^ k);
        within = omega (arith, P.layer);
        above = omega (arith, P.layer, some);
        inside = omega (arith, inside, d);
      }

  -- WELL-FORMED: 9, 1, 2 and 3 are not given,
  pub header_passes : header_number (is_hashes m) s m ≡ 0
  header_passes =
      passes (is_hashes m) s m
      (record {
        store = R.store;
        formed = is_hashes_lem;
        root = same_eq (facts_root s) (message_root m) (sym root_is);
        rules = rw header_is (kept_rules x (height_of s) rules);
      })

  -- and 4 is not
  pub size_right : length m ≡ message_size (header_of m)
  size_right = size_is ∙ sym (ap message_size header_is ∙ sized (i * 2 ^ k) (2 ^ k))

  -- its place: the piece's node, with no uncles
  abbrev place : Place
  place = record { k = k; u = 0; top = node_number (height_of s) k i }

  place_is : place_in s m ≡ place
  place_is = ap (λ (y : Header). place_of y (height_of s)) header_is ∙ placed (height_of s) k i

  -- its run is the piece's leaves
  run_is : run_of m (2 ^ k) ≡ leaf_run (leaf_of piece) (2 ^ k)
  unfolding run_of leaf_message
  run_is = cut_append_right (head_of (facts_root s) x) (leaf_run (leaf_of piece) (2 ^ k)) header_size (32 * 2 ^ k) (head_length (facts_root s) x (root_size s f)) (run_length (leaf_of piece) (λ j. (leaf_octets piece j).size) (2 ^ k))

  -- THE PIECE'S OWN: hash j of the run is leaf j of the piece
  pub leaf_is : (j : ℕ) → j < 2 ^ k → cut (run_of m (2 ^ k)) (32 * j) 32 ≡ leaf_of piece j
  leaf_is j l = ap (λ (y : List ℕ). cut y (32 * j) 32) run_is ∙ run_at (leaf_of piece) (λ j. (leaf_octets piece j).size) (2 ^ k) j l

  given_is : (j : ℕ) → j < 2 ^ k → given m k j ≡ leaf_of piece j
  unfolding given
  given_is j l =
      let rl = ap length run_is ∙ run_length (leaf_of piece) (λ j. (leaf_octets piece j).size) (2 ^ k) in
      let c : length (run_of m (2 ^ k)) / 32 ≡ 2 ^ k = omega arith in
      run_leaf_in (run_of m (2 ^ k)) zero_hash j (omega arith) ∙ leaf_is j l

  node_is : node (given m k) k 0 ≡ node (leaf_of piece) k 0
  node_is = node_same (given m k) (leaf_of piece) k 0 (λ j a b. given_is j (omega arith))

  subtree_is : subtree (given m k) k (node_number (height_of s) k i) 0 ≡ subtree (leaf_of piece) k (node_number (height_of s) k i) 0
  subtree_is = subtree_same (given m k) (leaf_of piece) k (node_number (height_of s) k i) 0 (λ j a b. given_is j (omega arith))

  settled_is : settled m place ≡ subtree (leaf_of piece) k (node_number (height_of s) k i) 0
  unfolding settled
  settled_is =
      ap₂ (λ (a b : List Entry). a ++ b) subtree_is (no_climb (uncles_of m (2 ^ k) 0) (node (given m k) k 0) (node_number (height_of s) k i)).1
      ∙ append-nil (subtree (leaf_of piece) k (node_number (height_of s) k i) 0)

  worked_is : worked m place ≡ node (leaf_of piece) k 0
  unfolding worked
  worked_is = (no_climb (uncles_of m (2 ^ k) 0) (node (given m k) k 0) (node_number (height_of s) k i)).0 ∙ node_is

  anchor_is : anchor place ≡ node_number (height_of s) k i
  unfolding anchor
  anchor_is = (no_climb [] [] (node_number (height_of s) k i)).2

  -- 5 is not given: the leaves past the file's blocks are zero
  run_padded_lem : run_padded (run_of m (2 ^ k)) (blocks_of s) 0 (i * 2 ^ k) (2 ^ k) ≡ true
  unfolding run_padded pad_value
  run_padded_lem =
      all_from_lem (run_of m (2 ^ k)) zero_hash (covering (blocks_of s) 0 - i * 2 ^ k) (2 ^ k)
      (λ j a b. leaf_is j b ∙ leaf_past piece j (omega (arith, piece_blocks s f i R.inside (length piece) R.size, covering_leaves (blocks_of s))))

  is_padded : padded m x place (blocks_of s) ≡ true
  unfolding padded
  is_padded = rw (run_padded_lem, no_uncles (uncles_of m (2 ^ k) 0) (blocks_of s) (0 + k) (i * 2 ^ k / 2 ^ k)) refl

  anchored_is : anchored s m place ≡ 0
  unfolding anchored
  anchored_is =
      rw (anchor_is, worked_is, settled_is, R.node.held, same_eq (hash_at s (node_number (height_of s) k i)) (node (leaf_of piece) k 0) R.node.alike, R.node.agree) refl

  -- TAKEN: kd_take of it on this store is 0
  pub leaves_taken : take_number s m ≡ 0
  unfolding take_number body_number
  leaves_taken =
      rw (eq-eqb (header_number (is_hashes m) s m) 0 header_passes)
      (rw (place_is, header_is)
      (rw (eq-eqb (length m) (message_size x) (size_right ∙ ap message_size header_is), is_padded) anchored_is))
