-- A judgement of 0 leaves what was written, any other number the store; the count is 0 beside both.
-- Assumes nothing.
use Rattle.std.specs.Prelude.{◌≡◌, List, cond, ℕ, eqb}
use Rattle.std.proofs.Common.{ap, sym, ◌∙◌, ne_eqb}
use Rattle.numbers.specs.Numbers.{refused, done}
use Rattle.numbers.specs.declared.Answer.{Answer}
use Rattle.marks.specs.Marks.{marked, marks_put, first_block, blocks_in}
use Rattle.pieces.specs.Pieces.{block_number, block_answer, block_after, piece_number, piece_answer, piece_after}
use Rattle.pieces.specs.Hybrid.{hybrid_number, hybrid_answer, hybrid_after}

module _ (n d : ℕ) (e : d ≡ n) (s u : List ℕ) where
  right_marks : d ≡ 0 → (t : List ℕ) → t ≡ u → (r : Answer) → r ≡ done 0 → (r ≡ record { number = n; count = 0 }) × (t ≡ cond (eqb n 0) u s)
  right_marks z t w r q =
      let k : n ≡ 0 = sym e ∙ z in
      (q ∙ ap (λ (x : ℕ). record { number = x; count = 0 }) (sym k), w ∙ sym (rw k))

  wrong_leaves : (d ≡ 0 → ⊥) → (r : Answer) → r ≡ refused d → (r ≡ record { number = n; count = 0 }) × (s ≡ cond (eqb n 0) u s)
  wrong_leaves z r q =
      (q ∙ ap (λ (x : ℕ). record { number = x; count = 0 }) e, sym (rw (ne_eqb n 0 (λ w. z (e ∙ w)))))

-- a block, a piece, a piece of a hybrid: what is answered and left where it is right, and where it is refused
module _ (s : List ℕ) (i : ℕ) (block : List ℕ) (d : ℕ) (e : d ≡ block_number s i block) where
  pub block_marked : d ≡ 0 → (t : List ℕ) → t ≡ marks_put s i 1 marked → (r : Answer) → r ≡ done 0 → (r ≡ block_answer s i block) × (t ≡ block_after s i block)
  unfolding block_answer block_after
  block_marked = right_marks (block_number s i block) d e s (marks_put s i 1 marked)

  pub block_left : (d ≡ 0 → ⊥) → (r : Answer) → r ≡ refused d → (r ≡ block_answer s i block) × (s ≡ block_after s i block)
  unfolding block_answer block_after
  block_left = wrong_leaves (block_number s i block) d e s (marks_put s i 1 marked)

module _ (s : List ℕ) (i : ℕ) (piece : List ℕ) (d : ℕ) (e : d ≡ piece_number s i piece) where
  pub piece_marked : d ≡ 0 → (t : List ℕ) → t ≡ marks_put s (first_block s i) (blocks_in s i) marked → (r : Answer) → r ≡ done 0 → (r ≡ piece_answer s i piece) × (t ≡ piece_after s i piece)
  unfolding piece_answer piece_after
  piece_marked = right_marks (piece_number s i piece) d e s (marks_put s (first_block s i) (blocks_in s i) marked)

  pub piece_left : (d ≡ 0 → ⊥) → (r : Answer) → r ≡ refused d → (r ≡ piece_answer s i piece) × (s ≡ piece_after s i piece)
  unfolding piece_answer piece_after
  piece_left = wrong_leaves (piece_number s i piece) d e s (marks_put s (first_block s i) (blocks_in s i) marked)

module _ (s : List ℕ) (i : ℕ) (piece v1 : List ℕ) (zeros : ℕ) (d : ℕ) (e : d ≡ hybrid_number s i piece v1 zeros) where
  pub hybrid_marked : d ≡ 0 → (t : List ℕ) → t ≡ marks_put s (first_block s i) (blocks_in s i) marked → (r : Answer) → r ≡ done 0 → (r ≡ hybrid_answer s i piece v1 zeros) × (t ≡ hybrid_after s i piece v1 zeros)
  unfolding hybrid_answer hybrid_after
  hybrid_marked = right_marks (hybrid_number s i piece v1 zeros) d e s (marks_put s (first_block s i) (blocks_in s i) marked)

  pub hybrid_left : (d ≡ 0 → ⊥) → (r : Answer) → r ≡ refused d → (r ≡ hybrid_answer s i piece v1 zeros) × (s ≡ hybrid_after s i piece v1 zeros)
  unfolding hybrid_answer hybrid_after
  hybrid_left = wrong_leaves (hybrid_number s i piece v1 zeros) d e s (marks_put s (first_block s i) (blocks_in s i) marked)
