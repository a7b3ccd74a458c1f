-- What judging leaves: on 0 the marks of the blocks that were judged, and nothing else; on any other number every byte.
-- Assumes nothing.
use Rattle.std.specs.Prelude.{◌≡◌, List, ℕ, ◌+◌, ◌^◌, ◌≤◌}
use Rattle.std.proofs.Common.{arith, ne_eqb}
use Rattle.store.specs.Store.{height_of}
use Rattle.store.specs.StoreLaws.{facts_leaves, usable_facts}
use Rattle.marks.specs.Marks.{marked, marks_put, first_block, blocks_in}
use Rattle.marks.specs.MarksLaws.{covered_fits}
use Rattle.pieces.specs.Pieces.{block_number, block_after, piece_number, piece_after}
use Rattle.pieces.proofs.PiecesLaws.{block_right, piece_right}

module _ (s : List ℕ) (i : ℕ) (block : List ℕ) where
  -- a block judged right is one of the file's, and has a mark
  pub block_fits : block_number s i block ≡ 0 → i + 1 ≤ 2 ^ height_of s
  block_fits z = let w = block_right s i block z in omega (arith, w.inside, facts_leaves s (usable_facts s w.store))

  pub block_marks : block_number s i block ≡ 0 → block_after s i block ≡ marks_put s i 1 marked
  unfolding block_after
  block_marks z = rw z

  pub block_stays : (block_number s i block ≡ 0 → ⊥) → block_after s i block ≡ s
  unfolding block_after
  block_stays ne = rw (ne_eqb (block_number s i block) 0 ne)

module _ (s : List ℕ) (i : ℕ) (piece : List ℕ) where
  -- a piece judged right is one of the file's, and its blocks have marks
  pub piece_fits : piece_number s i piece ≡ 0 → first_block s i + blocks_in s i ≤ 2 ^ height_of s
  piece_fits z = let w = piece_right s i piece z in covered_fits s (usable_facts s w.store) i w.inside

  pub piece_marks : piece_number s i piece ≡ 0 → piece_after s i piece ≡ marks_put s (first_block s i) (blocks_in s i) marked
  unfolding piece_after
  piece_marks z = rw z

  pub piece_stays : (piece_number s i piece ≡ 0 → ⊥) → piece_after s i piece ≡ s
  unfolding piece_after
  piece_stays ne = rw (ne_eqb (piece_number s i piece) 0 ne)
