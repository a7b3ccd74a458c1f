-- From the root to a mark: in a store of ours with a file's own length and pieces root, the bytes that a marked block was judged by are
-- the file's, unless two strings with one SHA-256 are shown.
-- Assumes nothing.
use Rattle.std.specs.Prelude.{◌≡◌, List, ◌⊎◌, ℕ, ◌+◌, ◌-◌, ◌*◌, ◌^◌, ◌<◌}
use Rattle.std.proofs.Common.{ap, sym, ◌∙◌, mul_comm, arith}
use Rattle.octets.specs.Octets.{Octets}
use Rattle.tree.specs.Geometry.{piece_count, block_size}
use Rattle.tree.specs.Values.{block_of}
use Rattle.tree.proofs.ValuesLaws.{block_of_piece}
use Rattle.store.specs.Store.{file_length, piece_length, height_of, Facts}
use Rattle.marks.specs.Marks.{each_piece, first_block, blocks_in}
use Rattle.pieces.specs.Pieces.{layer_of_pieces, block_answer, piece_answer}
use Rattle.pieces.specs.Hybrid.{V1Agrees, hybrid_answer}
use Rattle.words.specs.History.{Bytes, Call, judge_block, judge_piece, judge_hybrid_piece, Steps, Begins, OurStore, ours}
use Rattle.words.specs.Shown.{held_by, of_file, OneHash, Shown}
use Rattle.words.specs.File.{For, piece_for, PieceIs}
use Rattle.words.specs.Marks.{Covers, JudgedBy}
use Rattle.knowledge.specs.OwnBytes.{begins_ours}
use Rattle.knowledge.specs.Bitfield.{in_covered}
use Rattle.knowledge.specs.MarksSince.{judged_answered, judged_history, judged_grown}

module _ {s t : List ℕ} (begun : Begins s) (h : Steps s t) (file : List ℕ) (w : For file t) (bf : Bytes file) {j : ℕ} {u : List ℕ} where
  -- the bytes that the judging call was made on are a store of ours,
  ours_then : {c : Call} → JudgedBy j c u t h → OurStore u
  ours_then x = ours begun (judged_history x)

  -- for that file
  for_then : {c : Call} → JudgedBy j c u t h → For file u
  for_then x =
      let e = (judged_grown (begins_ours begun).chained.facts x).same in
      record { long = sym e.file ∙ w.long; root = sym e.root ∙ w.root }

  -- THE BLOCK THAT WAS JUDGED is the file's
  pub marked_by_block : (i : ℕ) (block : List ℕ) (bb : Bytes block) → JudgedBy j (judge_block i block bb) u t h
      → Shown (height_of u) (held_by u) (of_file file) ⊎ (OneHash (block_size (file_length u) i) block (block_of file i) ⊎ (block ≡ block_of file i))
  unfolding block_answer
  marked_by_block i block bb x = Rattle.knowledge.specs.Known.block_is_the_files file (ours_then x) (for_then x) i block bf bb (judged_answered x).1

  -- THE PIECE THAT WAS JUDGED is the file's
  pub marked_by_piece : (i : ℕ) (piece : List ℕ) (bp : Bytes piece) → JudgedBy j (judge_piece i piece bp) u t h → PieceIs file u i piece
  unfolding piece_answer
  marked_by_piece i piece bp x = Rattle.knowledge.specs.Known.piece_is_the_files file (ours_then x) (for_then x) i piece bf bp (judged_answered x).1

  -- A HYBRID'S PIECE is the file's, and the v1 half agreed
  pub marked_by_both : (i : ℕ) (piece v1 : List ℕ) (zeros : ℕ) (bp : Bytes piece) (o : Octets 20 v1) → JudgedBy j (judge_hybrid_piece i piece v1 zeros bp o) u t h
      → PieceIs file u i piece × V1Agrees u piece v1 zeros
  unfolding hybrid_answer
  marked_by_both i piece v1 zeros bp o x =
      Rattle.knowledge.specs.Known.hybrid_piece_is_the_files file (ours_then x) (for_then x) i piece v1 zeros bf bp (judged_answered x).1

-- and in the file's piece stands the file's block
pub block_in_piece : (file s : List ℕ) → Facts s → (i j : ℕ) → i < piece_count (file_length s) (piece_length s) → Covers s i j
    → block_of (piece_for file s i) (j - first_block s i) ≡ block_of file j
unfolding first_block blocks_in each_piece layer_of_pieces
block_in_piece file s f i j l c =
    let k = in_covered s f i l j c in
    let m = mul_comm i (2 ^ layer_of_pieces s) in
    let e : i * 2 ^ layer_of_pieces s + (j - first_block s i) ≡ j = omega (arith, k, m) in
    block_of_piece file (layer_of_pieces s) i (j - first_block s i) (omega (arith, k)) ∙ ap (block_of file) e
