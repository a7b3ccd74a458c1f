-- Laws of a message that comes in bursts: cutting it elsewhere leads to the same, and the end is the hash of the whole.
-- Assumes nothing.
use Rattle.std.specs.Prelude.{◌≡◌, refl, take, List, ◌++◌, ℕ, ◌+◌, ◌-◌, ◌*◌, ◌/◌, ◌%◌, ◌<◌, ◌≤◌}
use Rattle.std.proofs.Math.Path.{ap, ap₂, sym}
use Rattle.std.proofs.Common.{◌∙◌, drop-drop, append_assoc, arith}
use Rattle.std.proofs.Math.ListN.{length, drop, length-append, length-drop}
use Rattle.std.proofs.lemmas.List.{drop-append-le}
use Rattle.padding.specs.Cutting.{over_blocks, over_message}
use Rattle.padding.specs.CuttingLaws.{no_blocks, blocks_split, blocks_prefix, message_split}
use Rattle.padding.specs.Running.{Running, whole_blocks, past_blocks, running_of, running_more, running_end}

-- how many bytes wait: the remainder by 64
pub past_size : (m : List ℕ) → length (past_blocks m) ≡ length m % 64
unfolding past_blocks
past_size m = length-drop (64 * (length m / 64)) m ∙ omega arith

pub past_below : (m : List ℕ) → length (past_blocks m) < 64
past_below m = omega (arith, past_size m)

-- less than a block waits as it is
pub past_short : (m : List ℕ) → length m < 64 → past_blocks m ≡ m
unfolding past_blocks
past_short m h = let e : 64 * (length m / 64) ≡ 0 = omega arith in rw e

-- and has no block
pub whole_short : {S : Type 0} (f : S → List ℕ → S) (z : S) (m : List ℕ) → length m < 64 → whole_blocks f z m ≡ z
unfolding whole_blocks
whole_short f z m h = let e : length m / 64 ≡ 0 = omega arith in rw e (no_blocks f z m)

-- what waits past two strings is what waits past the second behind the rest of the first
pub past_append : (m ys : List ℕ) → past_blocks (m ++ ys) ≡ past_blocks (past_blocks m ++ ys)
unfolding past_blocks
past_append m ys =
    let a : ℕ = 64 * (length m / 64) in
    let r : List ℕ = drop (64 * (length m / 64)) m ++ ys in
    let l : length (m ++ ys) ≡ length m + length ys = length-append m ys in
    let k : length r ≡ length m - 64 * (length m / 64) + length ys = length-append (drop (64 * (length m / 64)) m) ys ∙ ap (λ (n : ℕ). n + length ys) (length-drop (64 * (length m / 64)) m) in
    let e : 64 * (length (m ++ ys) / 64) ≡ 64 * (length m / 64) + 64 * (length r / 64) = omega arith in
    ap (λ (n : ℕ). drop n (m ++ ys)) e
    ∙ sym (drop-drop (64 * (length r / 64)) (64 * (length m / 64)) (m ++ ys))
    ∙ ap (drop (64 * (length r / 64))) (drop-append-le (64 * (length m / 64)) m ys (omega arith))

module _ {S : Type 0} (f : S → List ℕ → S) where
  -- and the blocks of both are those of the first, and then of its rest with the second behind
  pub whole_append : (z : S) (m ys : List ℕ) → whole_blocks f z (m ++ ys) ≡ whole_blocks f (whole_blocks f z m) (past_blocks m ++ ys)
  unfolding whole_blocks past_blocks
  whole_append z m ys =
      let r : List ℕ = drop (64 * (length m / 64)) m ++ ys in
      let l : length (m ++ ys) ≡ length m + length ys = length-append m ys in
      let k : length r ≡ length m - 64 * (length m / 64) + length ys = length-append (drop (64 * (length m / 64)) m) ys ∙ ap (λ (n : ℕ). n + length ys) (length-drop (64 * (length m / 64)) m) in
      let e : length (m ++ ys) / 64 ≡ length m / 64 + length r / 64 = omega arith in
      ap (λ (n : ℕ). over_blocks f n z (m ++ ys)) e
      ∙ blocks_split f (m ++ ys) z (length m / 64) (length r / 64)
      ∙ ap₂ (λ (s : S) (l : List ℕ). over_blocks f (length r / 64) s l)
      (blocks_prefix f m ys z (length m / 64) (omega arith))
      (drop-append-le (64 * (length m / 64)) m ys (omega arith))

  -- from what xs leads to, a burst ys leads to what both lead to
  pub running_more_lem : (z : S) (xs ys : List ℕ) → running_more f (running_of f z xs) ys ≡ running_of f z (xs ++ ys)
  unfolding running_of running_more
  running_more_lem z xs ys = cc (whole_append z xs ys, past_append xs ys, length-append xs ys)

  -- two bursts one after the other are one, from any state
  pub running_twice : (r : Running S) (xs ys : List ℕ) → running_more f (running_more f r xs) ys ≡ running_more f r (xs ++ ys)
  unfolding running_more
  running_twice r xs ys =
      let a : r.tail ++ (xs ++ ys) ≡ (r.tail ++ xs) ++ ys = sym (append_assoc r.tail xs ys) in
      let n : r.total + length xs + length ys ≡ r.total + length (xs ++ ys) = omega (arith, length-append xs ys) in
      cc (whole_append r.words (r.tail ++ xs) ys, past_append (r.tail ++ xs) ys)

  -- the end of what xs leads to is the whole message
  pub running_end_lem : (z : S) (xs : List ℕ) → running_end f (running_of f z xs) ≡ over_message f z xs
  unfolding running_of running_end whole_blocks past_blocks
  running_end_lem z xs =
      let e : 64 * (length xs / 64) ≡ length xs - length xs % 64 = omega arith in
      rw e (message_split f xs z (length xs - length xs % 64) refl)

  -- a burst that completes a block: that block first, then the whole blocks of the rest
  pub whole_first : (z : S) (m : List ℕ) → 64 ≤ length m → whole_blocks f z m ≡ whole_blocks f (f z (take 64 m)) (drop 64 m)
  unfolding whole_blocks over_blocks
  whole_first z m h =
      let e : length m / 64 ≡ 1 + length (drop 64 m) / 64 = omega (arith, length-drop 64 m) in
      ap (λ (n : ℕ). over_blocks f n z m) e ∙ blocks_split f m z 1 (length (drop 64 m) / 64)

-- and what waits is what waits past the rest
pub past_first : (m : List ℕ) → 64 ≤ length m → past_blocks m ≡ past_blocks (drop 64 m)
unfolding past_blocks
past_first m h =
    let e : 64 * (length m / 64) ≡ 64 * (length (drop 64 m) / 64) + 64 = omega (arith, length-drop 64 m) in
    let g : 64 * (length (drop 64 m) / 64) + 64 ≡ 64 + 64 * (length (drop 64 m) / 64) = omega arith in
    ap (λ (n : ℕ). drop n m) (e ∙ g) ∙ sym (drop-drop (64 * (length (drop 64 m) / 64)) 64 m)
