-- A message and a pair of hashes as the code cuts them into blocks.
-- Assumes nothing.
use Rattle.std.specs.Prelude.{◌≡◌, replicate, List, [], ◌++◌, ℕ, ◌+◌, length, take, drop}
use Rattle.std.proofs.Common.{ap, div-one, ◌∙◌, append-nil, arith, length-append, length-drop, drop_of_length-le, take_all, take_at}
use Rattle.octets.specs.Octets.{pasted, be}
use Rattle.std.specs.Int.{to_be_bytes, w32}
use Rattle.constants.specs.Constants.{K}
use Rattle.padding.specs.Padding.{padding}
use Rattle.padding.specs.Cutting.{over_message}
use Rattle.padding.specs.CuttingLaws.{message_of_64}
use Rattle.rounds.specs.Block.{schedule, plus, compress}
use Rattle.rounds.specs.Sums.{sums, rounds_by}
use Rattle.rounds.specs.SumsLaws.{compress_by_sums}
use Rattle.rounds.specs.declared.State.{State}
use Rattle.sha256.specs.Sha256.{start}

pub joined_law : (z l r : List ℕ) → length z ≡ 64 → length l ≡ 32 → length r ≡ 32 → pasted (pasted z 0 l) 32 r ≡ l ++ r
unfolding pasted
joined_law z l r hz hl hr =
    let b : List ℕ = l ++ drop (0 + length l) z in
    let lb : length b ≡ 64 = length-append l (drop (0 + length l) z) ∙ omega (arith, length-drop (0 + length l) z) in
    let t : take 32 b ≡ l = take_at l (drop (0 + length l) z) 32 hl in
    let d : drop (32 + length r) b ≡ [] = drop_of_length-le b {i = 32 + length r} (omega arith) in
    ap (λ (x : List ℕ). x ++ r ++ drop (32 + length r) b) t ∙ ap (λ (x : List ℕ). l ++ r ++ x) d ∙ append-nil (l ++ r)

pub front : (b : List ℕ) → length b ≡ 64 → take 64 (drop 0 b) ≡ b
front b l = take_all 64 b (omega arith)

-- the block of a pair, and then the rounds by the table, are its message
pub pair_law :
    (k x b l r : List ℕ) (z t : State)
    → k ≡ K
    → x ≡ sums 64 K (schedule 48 (padding 64))
    → b ≡ l ++ r
    → z ≡ start
    → length b ≡ 64
    → t ≡ compress k z b
    → plus t (rounds_by x 64 t) ≡ over_message (compress K) start (l ++ r)
pair_law k x b l r z t ek ex eb ez lb et =
    let e : over_message (compress K) start b ≡ over_message (compress K) start (l ++ r) = ap (over_message (compress K) start) eb in
    cc (compress_by_sums K (padding 64) t, message_of_64 (compress K) b start lb)

-- the eight words put one after the other
pub words_put : (a b c d e f g h : ℕ) →
    pasted (pasted (pasted (pasted (pasted (pasted (pasted (pasted (replicate 32 0) 0 (to_be_bytes w32 a)) 4 (to_be_bytes w32 b)) 8 (to_be_bytes w32 c)) 12 (to_be_bytes w32 d)) 16 (to_be_bytes w32 e)) 20 (to_be_bytes w32 f)) 24 (to_be_bytes w32 g)) 28 (to_be_bytes w32 h)
    ≡ be 4 a ++ (be 4 b ++ (be 4 c ++ (be 4 d ++ (be 4 e ++ (be 4 f ++ (be 4 g ++ be 4 h))))))
unfolding pasted
words_put a b c d e f g h = simp div-one
