-- Laws of the cutting into blocks, for any block function f.
-- Assumes nothing.
use Rattle.std.specs.Prelude.{◌≡◌, List, ◌++◌, ℕ, zero, suc, ◌+◌, ◌-◌, ◌*◌, ◌/◌, ◌%◌, ◌≤◌}
use Rattle.std.proofs.Math.Path.{refl, ap, sym}
use Rattle.std.proofs.Common.{◌∙◌, drop_at, drop-drop, arith}
use Rattle.std.proofs.Math.Nat.{add-zero, add-suc}
use Rattle.std.proofs.Math.Numerals.{add-one}
use Rattle.std.proofs.Math.ListN.{length, take, drop, length-append, length-drop}
use Rattle.std.proofs.Math.Seq.{take_all, take-append-le, drop-append-le}
use Rattle.padding.specs.Padding.{padding, padded, zeros}
use Rattle.padding.specs.PaddingLaws.{length_padding}
use Rattle.padding.specs.Cutting.{over_blocks, over_message}

module _ {S : Type 0} (f : S → List ℕ → S) where
  pub no_blocks : (z : S) (m : List ℕ) → over_blocks f 0 z m ≡ z
  unfolding over_blocks
  no_blocks z m = refl

  -- one block more
  pub blocks_more : (m : List ℕ) (z : S) (i : ℕ) → f (over_blocks f i z m) (take 64 (drop (64 * i) m)) ≡ over_blocks f (i + 1) z m
  unfolding over_blocks
  blocks_more m z i = rw (add-one i) refl

  -- the blocks of a first part, and then of the rest
  pub blocks_split : (m : List ℕ) (z : S) (a b : ℕ) → over_blocks f (a + b) z m ≡ over_blocks f b (over_blocks f a z m) (drop (64 * a) m)
  unfolding over_blocks
  blocks_split m z a zero = rw add-zero
  blocks_split m z a (suc b) =
      let e : 64 * (a + b) ≡ 64 * a + 64 * b = omega arith in
      rw add-suc
      (ap (λ (s : S). f s (take 64 (drop (64 * (a + b)) m))) (blocks_split m z a b)
      ∙ ap (λ (l : List ℕ). f (over_blocks f b (over_blocks f a z m) (drop (64 * a) m)) (take 64 l))
      (ap (λ (k : ℕ). drop k m) e ∙ sym (drop-drop (64 * b) (64 * a) m)))

  -- what follows the blocks does not matter
  pub blocks_prefix : (m x : List ℕ) (z : S) (n : ℕ) → 64 * n ≤ length m → over_blocks f n z (m ++ x) ≡ over_blocks f n z m
  unfolding over_blocks
  blocks_prefix m x z zero h = refl
  blocks_prefix m x z (suc n) h =
      let i = blocks_prefix m x z n (omega arith) in
      let d = drop-append-le (64 * n) m x (omega arith) in
      let t = take-append-le 64 (drop (64 * n) m) x (omega (arith, length-drop (64 * n) m)) in
      cc

  -- the last block, or the last two, that lie at the front of b
  pub last_one :
      (b x : List ℕ) (z : S)
      → length x ≡ 64
      → take (length x) b ≡ x
      → f z (take 64 (drop 0 b)) ≡ over_blocks f (length x / 64) z x
  unfolding over_blocks
  last_one b x z l e =
      let q : length x / 64 ≡ 1 = omega arith in
      let t : take 64 x ≡ x = take_all 64 x (omega arith) in
      rw q (ap (f z) (ap (λ (n : ℕ). take n b) (sym l) ∙ e ∙ sym t))

  pub last_two :
      (b x : List ℕ) (z : S)
      → length x ≡ 128
      → length b ≡ 128
      → take (length x) b ≡ x
      → f (f z (take 64 (drop 0 b))) (take 64 (drop 64 b)) ≡ over_blocks f (length x / 64) z x
  unfolding over_blocks
  last_two b x z l k e =
      let q : length x / 64 ≡ 2 = omega arith in
      let t : b ≡ x = sym (take_all (length x) b (omega arith)) ∙ e in
      rw q (ap (λ (y : List ℕ). f (f z (take 64 (drop 0 y))) (take 64 (drop 64 y))) t)

  -- a message is its whole blocks, and then its last bytes with the padding
  pub message_split :
      (m : List ℕ) (z : S) (at : ℕ)
      → at ≡ length m - length m % 64
      → let x : List ℕ = drop at m ++ padding (length m) in
      over_blocks f (length x / 64) (over_blocks f (length m / 64) z m) x ≡ over_message f z m
  unfolding padded over_message
  message_split m z at h =
      let x : List ℕ = padding (length m) in
      let e : 64 * (length m / 64) ≡ at = omega arith in
      let d : drop (64 * (length m / 64)) (m ++ x) ≡ drop at m ++ x = ap (λ (k : ℕ). drop k (m ++ x)) e ∙ drop-append-le at m x (omega arith) in
      let l1 : length (drop at m ++ x) ≡ (length m - at) + length x = length-append (drop at m) x ∙ ap (λ (k : ℕ). k + length x) (length-drop at m) in
      let l2 : length (m ++ x) ≡ length m + length x = length-append m x in
      let q : length (m ++ x) / 64 ≡ length m / 64 + length (drop at m ++ x) / 64 = omega arith in
      sym
      (ap (λ (k : ℕ). over_blocks f k z (m ++ x)) q
      ∙ blocks_split (m ++ x) z (length m / 64) (length (drop at m ++ x) / 64)
      ∙ ap (λ (l : List ℕ). over_blocks f (length (drop at m ++ x) / 64) (over_blocks f (length m / 64) z (m ++ x)) l) d
      ∙ ap (λ (s : S). over_blocks f (length (drop at m ++ x) / 64) s (drop at m ++ x)) (blocks_prefix m x z (length m / 64) (omega arith)))

  -- the same, with the last bytes as code cuts them off
  pub message_parts :
      (m : List ℕ) (z t : S)
      → t ≡ over_blocks f (length m / 64) z m
      → let at : ℕ = length m - length m % 64 in
      let rest : List ℕ = take (length m - at) (drop at m) in
      over_blocks f (length (rest ++ padding (length m)) / 64) t (rest ++ padding (length m)) ≡ over_message f z m
  message_parts m z t h =
      let at : ℕ = length m - length m % 64 in
      let e : take (length m - at) (drop at m) ≡ drop at m = take_all (length m - at) (drop at m) (omega (arith, length-drop at m)) in
      ap (λ (l : List ℕ). over_blocks f (length (l ++ padding (length m)) / 64) t (l ++ padding (length m))) e
      ∙ ap (λ (s : S). over_blocks f (length (drop at m ++ padding (length m)) / 64) s (drop at m ++ padding (length m))) h
      ∙ message_split m z at refl

  -- a message of 64 bytes: its own block, and a block that is always the same
  pub message_of_64 : (m : List ℕ) (z : S) → length m ≡ 64 → f (f z m) (padding 64) ≡ over_message f z m
  unfolding over_blocks over_message padded zeros
  message_of_64 m z l =
      let lp : length (padding 64) ≡ 64 = length_padding 64 in
      let e : m ++ padding (length m) ≡ m ++ padding 64 = ap (λ (n : ℕ). m ++ padding n) l in
      let q : length (m ++ padding (length m)) / 64 ≡ 2 = ap (λ (x : List ℕ). length x / 64) e ∙ omega (arith, length-append m (padding 64)) in
      let t : take 64 (m ++ padding 64) ≡ m = take-append-le 64 m (padding 64) (omega arith) ∙ take_all 64 m (omega arith) in
      let d : take 64 (drop 64 (m ++ padding 64)) ≡ padding 64 = ap (take 64) (drop_at m (padding 64) 64 l) ∙ take_all 64 (padding 64) (omega arith) in
      rw (q, e) (sym (ap (λ (x : List ℕ). f (f z x) (take 64 (drop 64 (m ++ padding 64)))) t ∙ ap (f (f z m)) d))
