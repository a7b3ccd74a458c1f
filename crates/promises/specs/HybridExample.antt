-- The numbers of the v1 half are given: a store whose first piece is right by the v2 half, and of which the v1 half makes 0, 7 or 4, by the hash and the
-- zeros that are given. So a program that does not look at them is shut out.
-- Assumes nothing.
use Rattle.std.specs.Prelude.{◌≡◌, refl, List, ◌++◌, ℕ, suc, ◌+◌, ◌≤◌, length, replicate}
use Rattle.std.proofs.Common.{sym, inr, arith}
use Rattle.numbers.specs.Numbers.{wrong_size, differs}
use Rattle.sha_1.specs.Sha1.{sha1}
use Rattle.sha_1.specs.Sha1Laws.{sha1_octets}
use Rattle.store.specs.Store.{piece_length}
use Rattle.pieces.specs.Hybrid.{hybrid_answer}
use Rattle.pieces.proofs.HybridLaws.{hybrid_0, hybrid_4, hybrid_7, piece_short}
use Rattle.words.specs.File.{piece_for}
use Rattle.promises.specs.NumbersGiven.{other_than, other_differs}
use Rattle.promises.specs.Witness.{MetAfter}

-- SHA-1 of the file's first piece, without zeros
abbrev first_v1 : List ℕ → List ℕ → List ℕ
first_v1 file s = sha1 (piece_for file s 0 ++ replicate 0 0)

-- 0 with that hash, 7 with another, 4 with more zeros than the piece length
pub record Judged (file s : List ℕ) : Type 0 where
  pub right : (hybrid_answer s 0 (piece_for file s 0) (first_v1 file s) 0).number ≡ 0
  pub other : (hybrid_answer s 0 (piece_for file s 0) (other_than (first_v1 file s)) 0).number ≡ differs
  pub long : (hybrid_answer s 0 (piece_for file s 0) (first_v1 file s) (suc (piece_length s))).number ≡ wrong_size

pub judged_by_both : (file s : List ℕ) → MetAfter file s → Judged file s
unfolding hybrid_answer
judged_by_both file s m =
    record {
      right = (hybrid_0 s 0 (piece_for file s 0) (first_v1 file s) 0).1 (m.piece, record { room = short; hash = refl });
      other =
          (hybrid_7 s 0 (piece_for file s 0) (other_than (first_v1 file s)) 0).1
          (inr (m.piece, (short, λ e. other_differs (first_v1 file s) (omega (arith, (sha1_octets (piece_for file s 0 ++ replicate 0 0)).size)) (sym e))));
      long = (hybrid_4 s 0 (piece_for file s 0) (first_v1 file s) (suc (piece_length s))).1 (inr (m.piece, omega arith));
    }
  where
    short : length (piece_for file s 0) + 0 ≤ piece_length s
    short = omega (arith, piece_short s 0 (piece_for file s 0) m.piece)

-- with every byte said: `a_hybrid_piece_judged`, in proofs/HybridJudged
