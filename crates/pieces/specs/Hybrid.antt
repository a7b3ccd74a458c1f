-- 02, request 12: "The v1 hash of a piece covers the zeros of the padding file behind it. A piece of a hybrid is right only if both hashes agree;
-- the v2 answer comes first, then 7 for the v1 half." What a piece gets that is judged by both halves, and what it leaves.
-- Assumes nothing.
use Rattle.std.specs.Prelude.{◌≡◌, List, ◌++◌, cond, ℕ, ◌+◌, ◌≤◌, length, replicate, eqb, leb}
use Rattle.octets.specs.Octets.{same}
use Rattle.numbers.specs.Numbers.{wrong_size, differs}
use Rattle.numbers.specs.declared.Answer.{Answer}
use Rattle.sha_1.specs.Sha1.{sha1}
use Rattle.store.specs.Store.{piece_length}
use Rattle.marks.specs.Marks.{marked, marks_put, first_block, blocks_in}
use Rattle.pieces.specs.Pieces.{piece_number}

-- the v1 half agrees: the piece and the zeros behind it are at most the piece length, and their SHA-1 is the hash given
pub record V1Agrees (s piece v1 : List ℕ) (zeros : ℕ) : Type 0 where
  pub room : length piece + zeros ≤ piece_length s
  pub hash : sha1 (piece ++ replicate zeros 0) ≡ v1

-- what the v1 half gives: 4, then 7
unfoldable pub v1_number : List ℕ → List ℕ → List ℕ → ℕ → ℕ
v1_number s piece v1 zeros = cond (leb (length piece + zeros) (piece_length s)) (cond (same (sha1 (piece ++ replicate zeros 0)) v1) 0 differs) wrong_size

-- the v2 answer, and behind its 0 the v1 half's
unfoldable pub hybrid_number : List ℕ → ℕ → List ℕ → List ℕ → ℕ → ℕ
hybrid_number s i piece v1 zeros = cond (eqb (piece_number s i piece) 0) (v1_number s piece v1 zeros) (piece_number s i piece)

unfoldable pub hybrid_answer : List ℕ → ℕ → List ℕ → List ℕ → ℕ → Answer
hybrid_answer s i piece v1 zeros = record { number = hybrid_number s i piece v1 zeros; count = 0 }

-- on 0 the mark of each block that it covers is set, as by the v2 half alone
unfoldable pub hybrid_after : List ℕ → ℕ → List ℕ → List ℕ → ℕ → List ℕ
hybrid_after s i piece v1 zeros = cond (eqb (hybrid_number s i piece v1 zeros) 0) (marks_put s (first_block s i) (blocks_in s i) marked) s
