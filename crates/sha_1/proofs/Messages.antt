-- A message as the code takes it: its whole blocks, then its last bytes with the padding; and with zeros behind it: the block of its last bytes
-- filled up with zeros, then blocks of zeros.
-- Assumes nothing.
use Rattle.std.specs.Prelude.{◌≡◌, List, ◌++◌, ℕ, ◌+◌, ◌-◌, ◌*◌, ◌/◌, ◌%◌, ◌<◌, ◌≤◌, length, take, drop, replicate}
use Rattle.std.proofs.Common.{ap, div-one, sym, ◌∙◌, arith, length-drop, take_all}
use Rattle.std.proofs.Math.Seq.{take-append-add}
use Rattle.std.specs.Int.{to_be_bytes, w32}
use Rattle.octets.specs.Octets.{pasted, be}
use Rattle.octets.specs.OctetsLaws.{zeros_front}
use Rattle.padding.specs.Padding.{padding}
use Rattle.padding.specs.Cutting.{over_blocks, over_message}
use Rattle.padding.specs.Running.{past_blocks, tail_array}
use Rattle.padding.specs.RunningLaws.{past_size}
use Rattle.padding.specs.ZerosLaws.{few_zeros, many_zeros}
use Rattle.rounds1.specs.Block.{compress}
use Rattle.rounds1.specs.declared.Five.{Five}
use Rattle.sha_1.specs.Sha1.{start}

-- the bytes past the whole blocks, as the part that is handed on
past_part : (s part : List ℕ) → part ≡ take (length s - (length s - length s % 64)) (drop (length s - length s % 64) s) → part ≡ past_blocks s
unfolding past_blocks
past_part s part e =
    let at : length s - length s % 64 ≡ 64 * (length s / 64) = omega arith in
    e
    ∙ take_all (length s - (length s - length s % 64)) (drop (length s - length s % 64) s) (omega (arith, length-drop (length s - length s % 64) s))
    ∙ ap (λ (j : ℕ). drop j s) at

module _ (s part block : List ℕ) (z t : Five) (n : ℕ)
    (ep : part ≡ take (length s - (length s - length s % 64)) (drop (length s - length s % 64) s))
    (eb : block ≡ tail_array part)
    (ez : z ≡ start)
    (et : t ≡ over_blocks compress (length s / 64) z s) where
  past : part ≡ past_blocks s
  past = past_part s part ep

  size : length part ≡ length s % 64
  size = ap length past ∙ past_size s

  from_start : t ≡ over_blocks compress (length s / 64) start s
  from_start = et ∙ ap (λ (q : Five). over_blocks compress (length s / 64) q s) ez

  filled : block ≡ past_blocks s ++ replicate (64 - length s % 64) 0
  unfolding tail_array
  filled = eb ∙ ap (λ (k : ℕ). part ++ replicate (64 - k) 0) size ∙ ap (λ (l : List ℕ). l ++ replicate (64 - length s % 64) 0) past

  -- the zeros do not fill the block
  pub few_law : (x : List ℕ) → n < 64 - length s % 64 → x ≡ take (length s % 64 + n) block
      → over_blocks compress (length (x ++ padding (length s + n)) / 64) t (x ++ padding (length s + n)) ≡ over_message compress start (s ++ replicate n 0)
  few_law x h ex = few_zeros compress start t s n from_start (omega arith) x front
    where
      front : x ≡ past_blocks s ++ replicate n 0
      front =
          ex ∙ ap (take (length s % 64 + n)) filled
          ∙ ap (λ (k : ℕ). take (k + n) (past_blocks s ++ replicate (64 - length s % 64) 0)) (sym (past_size s))
          ∙ take-append-add (past_blocks s) (replicate (64 - length s % 64) 0) n
          ∙ ap (λ (l : List ℕ). past_blocks s ++ l) (zeros_front (64 - length s % 64) n (omega arith))

  -- they do
  pub many_law : (x : List ℕ) (u v : Five) → 64 - length s % 64 ≤ n
      → u ≡ compress t (take 64 (drop 0 block))
      → v ≡ over_blocks compress ((n - (64 - length s % 64)) / 64) u (replicate (n - (64 - length s % 64)) 0)
      → x ≡ take ((n - (64 - length s % 64)) % 64) (replicate 64 0)
      → over_blocks compress (length (x ++ padding (length s + n)) / 64) v (x ++ padding (length s + n)) ≡ over_message compress start (s ++ replicate n 0)
  many_law x u v h eu ev ex =
      many_zeros compress start t s n from_start (omega arith) block x u v filled eu ev
      (ex ∙ zeros_front 64 ((n - (64 - length s % 64)) % 64) (omega arith))

-- the five words put one after the other
pub words_put : (a b c d e : ℕ) →
    pasted (pasted (pasted (pasted (pasted (replicate 20 0) 0 (to_be_bytes w32 a)) 4 (to_be_bytes w32 b)) 8 (to_be_bytes w32 c)) 12 (to_be_bytes w32 d)) 16 (to_be_bytes w32 e)
    ≡ be 4 a ++ (be 4 b ++ (be 4 c ++ (be 4 d ++ be 4 e)))
unfolding pasted
words_put a b c d e = simp div-one
