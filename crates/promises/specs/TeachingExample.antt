-- A piece that is told: of any file of one piece, in a store just opened with its own root, if there is room for the message. So what the theorems say of
-- what kd_piece_hashes gives is said of something.
-- Assumes nothing.
use Rattle.std.specs.Prelude.{◌≡◌, refl, true, false, List, ℕ, ◌*◌, ◌^◌, ◌≤◌, ◌<◌, length}
use Rattle.std.proofs.Math.Path.{ap}
use Rattle.std.proofs.Common.{◌∙◌, subst, inl, inr, arith, le-ltb}
use Rattle.std.proofs.Math.Decide.{dec_lt}
use Rattle.octets.specs.Octets.{cut}
use Rattle.octets.specs.OctetsLaws.{cut_whole}
use Rattle.tree.specs.Geometry.{block_length, block_count, ceil_div, has_layer, height, piece_count}
use Rattle.tree.proofs.GeometryLaws.{ceil_enough}
use Rattle.tree.specs.Values.{piece_of, pieces_root}
use Rattle.tree.proofs.ValuesLaws.{root_octets}
use Rattle.store.specs.Store.{file_length, piece_length, facts_root, blocks_of, height_of, facts_in_range, store_size, Facts, open_answer, open_after, opened}
use Rattle.store.specs.StoreLaws.{opened_facts, opened_file, opened_piece, opened_facts_root, opened_height}
use Rattle.pieces.specs.Pieces.{layer_of_pieces, piece_height}
use Rattle.pieces.proofs.PiecesLaws.{height_root, piece_length_by_layer}
use Rattle.leaves.specs.Leaves.{leaves_answer}
use Rattle.words.specs.Held.{Holds}
use Rattle.words.specs.History.{Bytes, OurStore, ours, by_opening, begin}
use Rattle.words.specs.File.{For, piece_for}
use Rattle.words.specs.Shown.{held_by, of_file, Shown, Gives}
use Rattle.words.specs.Teaching.{told_size}
use Rattle.knowledge.specs.LeavesTaught.{piece_of_lem}
use Rattle.knowledge.specs.RootAlone.{range_exactly}
use Rattle.promises.specs.EachNumber.{open_0, open_leaves, root_alone}
use Rattle.promises.specs.Teaching.{true_piece_told}

module _ (b file : List ℕ) (plen : ℕ) (bb : Bytes b) (z : (open_answer b (length file) plen).number ≡ 0) (short : length file ≤ plen) where
  abbrev s : List ℕ
  s = open_after b (length file) plen (pieces_root file)

  size : length (pieces_root file) ≡ 32
  size = (root_octets file).size

  range : facts_in_range (length file) plen ≡ true
  range = (range_exactly (length file) plen).1 ((open_0 b (length file) plen).0 z).0

  fits : store_size (length file) ≤ length b
  fits = ((open_0 b (length file) plen).0 z).1

  is_opened : s ≡ opened b (length file) plen (pieces_root file)
  is_opened = open_leaves b (length file) plen (pieces_root file) z

  facts : Facts s
  facts = rw is_opened (opened_facts b (length file) plen (pieces_root file) range fits size)

  mine : OurStore s
  mine = ours (by_opening b (length file) plen (pieces_root file) bb (root_octets file) z) begin

  long : file_length s ≡ length file
  long = ap file_length is_opened ∙ opened_file b (length file) plen (pieces_root file) range fits size

  piece_length_lem : piece_length s ≡ plen
  piece_length_lem = ap piece_length is_opened ∙ opened_piece b (length file) plen (pieces_root file) range fits size

  high : height_of s ≡ height (block_count (length file))
  high = ap height_of is_opened ∙ opened_height b (length file) plen (pieces_root file) range fits size

  own : For file s
  own = record { long = long; root = ap facts_root is_opened ∙ opened_facts_root b (length file) plen (pieces_root file) range fits size }

  no_layer : has_layer (file_length s) (piece_length s) ≡ false
  unfolding has_layer
  no_layer = le-ltb (piece_length s) (file_length s) (omega (arith, long, piece_length_lem))

  at_root : piece_height s ≡ height (block_count (length file))
  at_root = height_root s facts no_layer ∙ high

  -- the root is held, and it is the piece's node
  node_held : Holds s (piece_height s) 0 (pieces_root file)
  node_held = (root_alone b (length file) plen (pieces_root file) size z (piece_height s) 0 (pieces_root file)).1 (at_root, refl, refl)

  -- the file is its only piece
  whole : piece_for file s 0 ≡ file
  unfolding piece_of
  whole =
      let e : block_length * 2 ^ layer_of_pieces s * 0 ≡ 0 = omega arith in
      ap (λ (x : ℕ). cut file x (block_length * 2 ^ layer_of_pieces s)) e
      ∙ cut_whole file (block_length * 2 ^ layer_of_pieces s) (omega (arith, piece_length_by_layer s facts, piece_length_lem))

  some_block : 0 < blocks_of s
  unfolding blocks_of block_count
  some_block =
      elim (dec_lt 0 (ceil_div (file_length s) block_length)) [
        | yes y ↦ y
        | no n ↦ (let w : ⊥ = omega (arith, ceil_enough (file_length s) block_length 0 (omega arith) (omega arith), facts.some) in absurd w)
      ]

  some_piece : 0 < piece_count (file_length s) (piece_length s)
  some_piece = omega (arith, piece_of_lem s facts 0 some_block)

  -- no two children of a position are held
  nothing_shown : Shown (height_of s) (held_by s) (of_file file) → ⊥
  unfolding Gives
  nothing_shown x =
      let e = (root_alone b (length file) plen (pieces_root file) size z x.layer (2 * x.index) x.l).0 x.left in
      omega (arith, e.0, x.low, high)

  -- A FILE OF ONE PIECE, its store just opened: what kd_piece_hashes answers is 0
  pub one_piece_told : (out : List ℕ) → told_size s ≤ length out → (leaves_answer s 0 file out).number ≡ 0
  one_piece_told out room =
      elim (true_piece_told file mine own 0 (pieces_root file) some_piece node_held out room) [
        | inl x ↦ absurd (nothing_shown x)
        | inr w ↦ subst (λ (p : List ℕ). (leaves_answer s 0 p out).number ≡ 0) whole w
      ]
