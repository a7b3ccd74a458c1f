-- 02, request 12, of a piece that is judged: "A piece of a hybrid is right only if both hashes agree; the v2 answer comes first, then 7 for the v1
-- half." Each number of the call is in EachNumber, that the piece is the file's in FromRootToBlock, what a mark promises in Marks.
-- Assumes nothing.
use Rattle.std.specs.Prelude.{◌≡◌, true, List, ◌++◌, ◌↔◌, ◌⊎◌, replicate, ℕ, ◌+◌, ◌-◌, ◌*◌, ◌≤◌, ◌<◌, min}
use Rattle.std.proofs.Math.Path.{ap, ap₂}
use Rattle.std.proofs.Common.{sym, ◌∙◌, inr, mul_comm, arith}
use Rattle.std.proofs.Math.ListN.{length}
use Rattle.octets.specs.Octets.{cut}
use Rattle.numbers.specs.Numbers.{differs}
use Rattle.sha_1.specs.Sha1.{sha1}
use Rattle.tree.specs.Geometry.{piece_count, piece_size}
use Rattle.tree.specs.Values.{piece_of}
use Rattle.store.specs.Store.{usable, file_length, piece_length, height_of, Facts}
use Rattle.store.specs.StoreLaws.{usable_facts, facts_usable}
use Rattle.pieces.specs.Pieces.{piece_height, piece_answer, piece_after}
use Rattle.pieces.specs.Hybrid.{V1Agrees, hybrid_answer, hybrid_after}
use Rattle.pieces.proofs.HybridLaws.{hybrid_0, hybrid_7, hybrid_first, hybrid_marks, hybrid_stays}
use Rattle.halves.specs.Stream.{zeros_behind}
use Rattle.words.specs.Held.{Holds}
use Rattle.words.specs.History.{OurStore}
use Rattle.words.specs.Shown.{held_by, of_file, Shown}
use Rattle.words.specs.File.{For, piece_for}
use Rattle.knowledge.specs.OwnBytes.{ours_have}
use Rattle.knowledge.specs.RootToBlock.{plen_form, piece_size_is}
use Rattle.promises.specs.FromRootToBlock.{true_hybrid_piece_believed}

module _ (s : List ℕ) (i : ℕ) (piece v1 : List ℕ) (zeros : ℕ) where
  -- "A piece of a hybrid is right only if both hashes agree": 0 exactly where kd_judge_piece gives 0, the zeros fit, and SHA-1 of the piece and the
  -- zeros is the hash given
  pub right_exactly_if_both_agree : ((hybrid_answer s i piece v1 zeros).number ≡ 0) ↔ (((piece_answer s i piece).number ≡ 0) × V1Agrees s piece v1 zeros)
  unfolding hybrid_answer piece_answer
  right_exactly_if_both_agree = hybrid_0 s i piece v1 zeros

  -- "the v2 answer comes first": a refusal of kd_judge_piece is the answer, 8 too
  pub v2_answer_first : ((piece_answer s i piece).number ≡ 0 → ⊥) → hybrid_answer s i piece v1 zeros ≡ piece_answer s i piece
  unfolding hybrid_answer piece_answer
  v2_answer_first ne = ap (λ (n : ℕ). record { number = n; count = 0 }) (hybrid_first s i piece v1 zeros ne)

  -- "then 7 for the v1 half"
  pub then_7 : (piece_answer s i piece).number ≡ 0 → length piece + zeros ≤ piece_length s → (sha1 (piece ++ replicate zeros 0) ≡ v1 → ⊥)
      → (hybrid_answer s i piece v1 zeros).number ≡ differs
  unfolding hybrid_answer piece_answer
  then_7 z l ne = (hybrid_7 s i piece v1 zeros).1 (inr (z, (l, ne)))

  -- marks are set where both agree, as kd_judge_piece sets them,
  pub marks_where_both_agree : (hybrid_answer s i piece v1 zeros).number ≡ 0 → hybrid_after s i piece v1 zeros ≡ piece_after s i piece
  unfolding hybrid_answer
  marks_where_both_agree = hybrid_marks s i piece v1 zeros

  -- and nowhere else
  pub no_mark_else : ((hybrid_answer s i piece v1 zeros).number ≡ 0 → ⊥) → hybrid_after s i piece v1 zeros ≡ s
  unfolding hybrid_answer
  no_mark_else = hybrid_stays s i piece v1 zeros

-- ---- with the hash and the zeros that a torrent has for the piece

filled_up : (p x y : ℕ) → x ≤ p → y ≤ p → x + (y - x) ≤ p
filled_up p x y a b = omega arith

-- "The v1 hash of a piece covers the zeros of the padding file behind it": where the hash given is SHA-1 of the file's own piece and the zeros behind
-- it (`v1_hash_covers`, crates/halves), the v1 half agrees. `at` is where the piece begins in the bytes that the v1 half hashes, `all` how many
-- these are.
module _ (file s : List ℕ) (w : For file s) (i all at : ℕ) (l : i < piece_count (file_length s) (piece_length s)) where
  abbrev behind : ℕ
  behind = zeros_behind (piece_length s) all at (length file - i * piece_length s)

  module _ (f : Facts s) where
    start : piece_length s * i ≡ i * piece_length s
    start = mul_comm (piece_length s) i

    piece_is : cut file (i * piece_length s) (piece_length s) ≡ piece_for file s i
    unfolding piece_of
    piece_is =
        let p = plen_form file s f w i l in
        ap (λ (a : ℕ). cut file a (piece_length s)) (sym start) ∙ ap (λ (n : ℕ). cut file (n * i) n) p

    fits : length (piece_for file s i) + behind ≤ piece_length s
    unfolding piece_size zeros_behind
    fits =
        let left = length file - i * piece_length s in
        let e : length (piece_for file s i) ≡ min (piece_length s) left = piece_size_is file s f w i l ∙ ap₂ (λ (n a : ℕ). min (piece_length s) (n - a)) w.long start in
        rw e (filled_up (piece_length s) (min (piece_length s) left) (min (piece_length s) (all - at)) (omega arith) (omega arith))

  pub the_v1_half_agrees : (v1 : List ℕ) → usable s ≡ true → v1 ≡ sha1 (cut file (i * piece_length s) (piece_length s) ++ replicate behind 0) → V1Agrees s (piece_for file s i) v1 behind
  the_v1_half_agrees v1 u e =
      let f = usable_facts s u in
      record { room = fits f; hash = sym (e ∙ ap (λ (p : List ℕ). sha1 (p ++ replicate behind 0)) (piece_is f)) }

  -- so the file's own piece, where kd_held gives its node, is right by both halves, or a pair is shown
  pub the_files_piece_right : OurStore s → (v v1 : List ℕ) → Holds s (piece_height s) i v → v1 ≡ sha1 (cut file (i * piece_length s) (piece_length s) ++ replicate behind 0)
      → Shown (height_of s) (held_by s) (of_file file) ⊎ ((hybrid_answer s i (piece_for file s i) v1 behind).number ≡ 0)
  the_files_piece_right o v v1 h e =
      true_hybrid_piece_believed file o w i v v1 behind l h (the_v1_half_agrees v1 (facts_usable s (ours_have o).chained.facts) e)
