-- Demand 2, from the root to the block: a piece answered 0 is the file's, or a pair is shown, or two blocks have one SHA-256.
-- Assumes nothing.
use Rattle.std.specs.Prelude.{◌≡◌, refl, Bool, true, false, List, ◌⊎◌, ℕ, zero, suc, ◌+◌, ◌-◌, ◌*◌, ◌/◌, ◌%◌, ◌^◌, ◌≤◌, ◌<◌, length, get_or}
use Rattle.std.proofs.Common.{ap, sym, ◌∙◌, subst, inl, inr, ext_get_or, arith}
use Rattle.std.proofs.Math.Nat.{pow-succ'}
use Rattle.std.proofs.Math.Decide.{dec_lt, ℕ_discrete}
use Rattle.octets.specs.Octets.{Octets, cut}
use Rattle.octets.specs.OctetsLaws.{get_or_cut, cut_size}
use Rattle.tree.specs.Geometry.{block_length, block_count, node_number, has_layer, piece_count, block_size, piece_size}
use Rattle.tree.proofs.GeometryLaws.{left_start, right_start, node_number_range, block_within, block_outside, piece_size_most}
use Rattle.tree.specs.Values.{node, leaf_of, block_of, piece_of}
use Rattle.tree.proofs.ValuesLaws.{node_octets, leaf_octets, leaf_block}
use Rattle.cells.specs.Entries.{Entry}
use Rattle.cells.specs.EntriesLaws.{In}
use Rattle.store.specs.Store.{file_length, piece_length, blocks_of, height_of, positions, Facts}
use Rattle.store.specs.StoreLaws.{facts_leaves}
use Rattle.settling.specs.Span.{Within}
use Rattle.settling.specs.Subtree.{subtree}
use Rattle.settling.specs.SubtreeLaws.{within_left, within_right, within_self, subtree_left, subtree_right, subtree_top}
use Rattle.pieces.specs.Pieces.{layer_of_pieces, piece_height, piece_number}
use Rattle.pieces.proofs.PiecesLaws.{piece_in_lem, piece_within, height_layer, height_root, piece_right}
use Rattle.words.specs.History.{Bytes, OurStore}
use Rattle.words.specs.Shown.{Source, held_by, by_piece, of_file, OneHash}
use Rattle.words.specs.File.{For, piece_for}
use Rattle.knowledge.specs.OwnBytes.{ours_have, ours_bytes}
use Rattle.knowledge.specs.Conflict.{ShownAt, GivesAt, same_or_shown}
use Rattle.knowledge.specs.RootToBlock.{same_or_one_hash, block_octets, tree_agrees, agreed_is, part_in_tree, plen_form, piece_leaf, piece_size_is}

-- two subtrees at one position whose tops agree have the same leaves, or show a pair
leaves_or_shown : (h : ℕ) (x y : Source) (f g : ℕ → List ℕ) (k n j j2 : ℕ) → 1 ≤ n → Within (positions h) k n
    → ((e : Entry) → In e (subtree f k n j) → GivesAt x e.at e.hash) → ((e : Entry) → In e (subtree g k n j2) → GivesAt y e.at e.hash)
    → ((i : ℕ) → Octets 32 (f i)) → ((i : ℕ) → Octets 32 (g i)) → node f k j ≡ node g k j2
    → ShownAt h x y ⊎ ((z : ℕ) → z < 2 ^ k → f (j * 2 ^ k + z) ≡ g (j2 * 2 ^ k + z))
unfolding node
leaves_or_shown h x y f g zero n j j2 a w gx gy of og e =
    inr
    (λ z l.
    let p : j * 2 ^ 0 + z ≡ j = omega arith in
    let q : j2 * 2 ^ 0 + z ≡ j2 = omega arith in
    ap f p ∙ e ∙ ap g (sym q))
leaves_or_shown h x y f g (suc k) n j j2 a w gx gy of og e =
    let wl = within_left (positions h) k n w in
    let wr = within_right (positions h) k n w in
    let d = pow-succ' 2 k in
    let fl : (e : Entry) → In e (subtree f k (2 * n) (2 * j)) → GivesAt x e.at e.hash = λ e i. gx e (subtree_left f k n j e i) in
    let fr : (e : Entry) → In e (subtree f k (2 * n + 1) (2 * j + 1)) → GivesAt x e.at e.hash = λ e i. gx e (subtree_right f k n j e i) in
    let gl : (e : Entry) → In e (subtree g k (2 * n) (2 * j2)) → GivesAt y e.at e.hash = λ e i. gy e (subtree_left g k n j2 e i) in
    let gr : (e : Entry) → In e (subtree g k (2 * n + 1) (2 * j2 + 1)) → GivesAt y e.at e.hash = λ e i. gy e (subtree_right g k n j2 e i) in
    elim (same_or_shown h x y n a (within_self (positions h) k (2 * n + 1) wr) (node f k (2 * j)) (node f k (2 * j + 1)) (node g k (2 * j2)) (node g k (2 * j2 + 1))
    (fl _ (subtree_top f k (2 * n) (2 * j))) (fr _ (subtree_top f k (2 * n + 1) (2 * j + 1))) (gl _ (subtree_top g k (2 * n) (2 * j2))) (gr _ (subtree_top g k (2 * n + 1) (2 * j2 + 1)))
    (node_octets f of k (2 * j)) (node_octets f of k (2 * j + 1)) (node_octets g og k (2 * j2)) (node_octets g og k (2 * j2 + 1)) e) [
      | inl s ↦ inl s
      | inr o ↦ elim (leaves_or_shown h x y f g k (2 * n) (2 * j) (2 * j2) (omega arith) wl fl gl of og o.0) [
        | inl s ↦ inl s
        | inr L ↦ elim (leaves_or_shown h x y f g k (2 * n + 1) (2 * j + 1) (2 * j2 + 1) (omega arith) wr fr gr of og o.1) [
          | inl s ↦ inl s
          | inr R ↦
              inr
              (λ z l.
              elim (dec_lt z (2 ^ k)) [
                | yes c ↦
                    let p : j * 2 ^ suc k + z ≡ 2 * j * 2 ^ k + z = omega (arith, left_start j k) in
                    let q : j2 * 2 ^ suc k + z ≡ 2 * j2 * 2 ^ k + z = omega (arith, left_start j2 k) in
                    ap f p ∙ L z c ∙ ap g (sym q)
                | no c ↦
                    let p : j * 2 ^ suc k + z ≡ (2 * j + 1) * 2 ^ k + (z - 2 ^ k) = omega (arith, left_start j k, right_start j k) in
                    let q : j2 * 2 ^ suc k + z ≡ (2 * j2 + 1) * 2 ^ k + (z - 2 ^ k) = omega (arith, left_start j2 k, right_start j2 k) in
                    ap f p ∙ R (z - 2 ^ k) (omega arith) ∙ ap g (sym q)
              ])
        ]
      ]
    ]

-- the first block that differs, of c
pub search : (a b : List ℕ) (c : ℕ) → ((x : ℕ) → x < c → OneHash (block_size (length a) x) (block_of a x) (block_of b x) ⊎ (block_of a x ≡ block_of b x))
    → ((x : ℕ) × OneHash (block_size (length a) x) (block_of a x) (block_of b x)) ⊎ ((x : ℕ) → x < c → block_of a x ≡ block_of b x)
search a b zero f = inr (λ x l. absurd (omega arith))
search a b (suc c) f =
    elim (search a b c (λ x l. f x (omega arith))) [
      | inl o ↦ inl o
      | inr k ↦ elim (f c (omega arith)) [
        | inl o ↦ inl (c, o)
        | inr e ↦ inr (λ x l. elim (ℕ_discrete x c) [ yes q ↦ rw q e | no ne ↦ k x (omega arith) ])
      ]
    ]

-- strings of the same blocks are the same
pub by_blocks : (a b : List ℕ) → length a ≡ length b → ((x : ℕ) → x < block_count (length a) → block_of a x ≡ block_of b x) → a ≡ b
unfolding block_of
by_blocks a b n f =
    ext_get_or 0 a b n
    (λ i l.
    let x : ℕ = i / 16384 in
    let z : ℕ = i % 16384 in
    let e : block_length * (i / 16384) + i % 16384 ≡ i = omega arith in
    let m : i % 16384 < block_length = omega arith in
    ap (λ (y : ℕ). get_or a y 0) (sym e) ∙ sym (get_or_cut a (block_length * (i / 16384)) block_length (i % 16384) m)
    ∙ ap (λ (u : List ℕ). get_or u (i % 16384) 0) (f (i / 16384) (block_within (length a) (i / 16384) (omega arith)))
    ∙ get_or_cut b (block_length * (i / 16384)) block_length (i % 16384) m ∙ ap (λ (y : ℕ). get_or b y 0) e)

-- what a piece answered 0 is: the file's own piece; or the store and the file's tree show a pair; or the piece and the file's tree do;
-- or a block of it and the file's are two different strings of that block's size with one SHA-256
pub data PieceIsAt (file s : List ℕ) (i : ℕ) (piece : List ℕ) : Type 0 where
  the_files_at : piece ≡ piece_for file s i → PieceIsAt file s i piece
  store_shows_at : ShownAt (height_of s) (held_by s) (of_file file) → PieceIsAt file s i piece
  piece_shows_at : ShownAt (height_of s) (by_piece s i piece) (of_file file) → PieceIsAt file s i piece
  block_shows_at : (x : ℕ) → OneHash (block_size (length piece) x) (block_of piece x) (block_of (piece_for file s i) x) → PieceIsAt file s i piece

module _ (file s : List ℕ) (f : Facts s) (w : For file s) (i : ℕ) (l : i < piece_count (file_length s) (piece_length s))
    (piece : List ℕ) (size : length piece ≡ piece_size (file_length s) (piece_length s) i) (bf : Bytes file) (bp : Bytes piece) where
  same_size : length piece ≡ length (piece_for file s i)
  same_size = size ∙ sym (piece_size_is file s f w i l)

  true_bytes : Bytes (piece_for file s i)
  unfolding piece_of
  true_bytes =
      cut_bytes (block_length * 2 ^ layer_of_pieces s * i) (block_length * 2 ^ layer_of_pieces s)
    where
      cut_bytes : (at n : ℕ) → Bytes (cut file at n)
      cut_bytes at n =
          record {
            size = refl;
            bytes =
                λ z b.
                let q = cut_size file at n in
                rw (get_or_cut file at n z (omega arith)) (bf.bytes (at + z) (omega arith));
          }

  -- the piece's blocks are among its 2^k leaves
  few : block_count (length piece) ≤ 2 ^ piece_height s
  few = by (has_layer (file_length s) (piece_length s)) refl
    where
      by : (t : Bool) → has_layer (file_length s) (piece_length s) ≡ t → block_count (length piece) ≤ 2 ^ piece_height s
      by true t =
          rw (height_layer s f t)
          (block_outside (length piece) (2 ^ layer_of_pieces s) (omega (arith, plen_form file s f w i l, piece_size_most (file_length s) (piece_length s) i)))
      by false t =
          rw (height_root s f t)
          (block_outside (length piece) (2 ^ height_of s) (omega (arith, short, whole_file)))
        where
          short : piece_size (file_length s) (piece_length s) i ≤ file_length s
          short = unfold piece_size in omega arith

          whole_file : file_length s ≤ block_length * 2 ^ height_of s
          whole_file = Rattle.tree.proofs.GeometryLaws.block_past (file_length s) (2 ^ height_of s) (unfold blocks_of in facts_leaves s f)

  from_leaves : ((z : ℕ) → z < 2 ^ piece_height s → leaf_of piece z ≡ leaf_of (piece_for file s i) z) → PieceIsAt file s i piece
  from_leaves k =
      elim (search piece (piece_for file s i) (block_count (length piece))
      (λ x b.
      let c : x < block_count (length (piece_for file s i)) = rw same_size at b in
      same_or_one_hash (block_size (length piece) x) (block_of piece x) (block_of (piece_for file s i) x) (block_octets piece x bp b)
      (subst (λ (n : ℕ). Octets (block_size n x) (block_of (piece_for file s i) x)) (sym same_size) (block_octets (piece_for file s i) x true_bytes c))
      (sym (leaf_block piece x b) ∙ k x (omega (arith, few)) ∙ leaf_block (piece_for file s i) x c))) [
        | inl o ↦ block_shows_at o.0 o.1
        | inr e ↦ the_files_at (by_blocks piece (piece_for file s i) same_size e)
      ]

-- A PIECE ANSWERED 0 IS THE FILE'S, or a pair is shown, or two blocks are different strings with one SHA-256
pub piece_is_the_files_at : {s : List ℕ} (file : List ℕ) (i : ℕ) (piece : List ℕ) → OurStore s → For file s → Bytes file → Bytes piece → piece_number s i piece ≡ 0
    → PieceIsAt file s i piece
unfolding GivesAt
piece_is_the_files_at {s} file i piece o w bf bp z =
    let r = piece_right s i piece z in
    let f = (ours_have o).chained.facts in
    let p = piece_in_lem s f i r.inside in
    let k = piece_height s in
    let n = node_number (height_of s) (piece_height s) i in
    elim (tree_agrees file s w (ours_have o).chained (ours_bytes o)) [
      | inl x ↦ store_shows_at x
      | inr g ↦
          elim (leaves_or_shown (height_of s) (by_piece s i piece) (of_file file) (leaf_of piece) (leaf_of file) k n 0 i
          (node_number_range (height_of s) (piece_height s) i p.inside).0 (piece_within s i p) (λ e x. x) (part_in_tree file s w k i p.layer p.inside)
          (leaf_octets piece) (leaf_octets file)
          (sym r.node.alike ∙ agreed_is file s w g k i p.layer p.inside r.node.held)) [
            | inl x ↦ piece_shows_at x
            | inr L ↦
                from_leaves file s f w i r.inside piece r.size bf bp
                (λ y b.
                let q : y ≡ 0 * 2 ^ piece_height s + y = omega arith in
                ap (leaf_of piece) q ∙ L y b ∙ sym (piece_leaf file s f w i r.inside y b))
          ]
    ]
