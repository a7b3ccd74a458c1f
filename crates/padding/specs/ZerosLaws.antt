-- A message with zeros behind it, which need not lie in memory: by the bytes past its whole blocks, and blocks of zeros.
-- Assumes nothing.
use Rattle.std.specs.Prelude.{◌≡◌, List, ◌++◌, ℕ, ◌+◌, ◌-◌, ◌*◌, ◌/◌, ◌%◌, ◌<◌, ◌≤◌, length, take, drop, replicate}
use Rattle.std.proofs.Math.Path.{refl, ap, sym}
use Rattle.std.proofs.Common.{ap₂, ◌∙◌, arith, length-append, take_all}
use Rattle.std.proofs.lemmas.List.{length-replicate, replicate-append-replicate}
use Rattle.std.proofs.Math.Seq.{take-append-add, drop-append-add}
use Rattle.octets.specs.OctetsLaws.{zeros_front, zeros_behind}
use Rattle.padding.specs.Padding.{padding}
use Rattle.padding.specs.Cutting.{over_blocks, over_message}
use Rattle.padding.specs.Running.{whole_blocks, past_blocks, running_of, running_more, running_end}
use Rattle.padding.specs.RunningLaws.{past_size, past_short, whole_short, running_more_lem, running_end_lem, whole_first, past_first}

-- a block of zeros is any block of them
pub zero_block : (n at : ℕ) → at + 64 ≤ n → take {A = ℕ} 64 (drop at (replicate n 0)) ≡ replicate 64 0
zero_block n at h = ap (take 64) (zeros_behind n at (omega arith)) ∙ zeros_front (n - at) 64 (omega arith)

-- what waits past the blocks of zeros
past_zeros : (n : ℕ) → past_blocks (replicate n 0) ≡ replicate (n % 64) 0
unfolding past_blocks
past_zeros n =
    let l : length {A = ℕ} (replicate n 0) ≡ n = length-replicate {A = ℕ} n 0 in
    let e : n - 64 * (n / 64) ≡ n % 64 = omega arith in
    ap (λ (k : ℕ). drop {A = ℕ} (64 * (k / 64)) (replicate n 0)) l ∙ zeros_behind n (64 * (n / 64)) (omega arith) ∙ ap (λ (k : ℕ). replicate k 0) e

module _ {S : Type 0} (f : S → List ℕ → S) where
  -- a message in two parts, by what waits past the blocks of the first
  in_parts : (z : S) (s ys : List ℕ)
      → whole_blocks f (whole_blocks f (whole_blocks f z s) (past_blocks s ++ ys)) (past_blocks (past_blocks s ++ ys) ++ padding (length s + length ys)) ≡ over_message f z (s ++ ys)
  unfolding running_of running_more running_end
  in_parts z s ys = ap (running_end f) (running_more_lem f z s ys) ∙ running_end_lem f z (s ++ ys)

  module _ (z t : S) (s : List ℕ) (n : ℕ) (et : t ≡ over_blocks f (length s / 64) z s) where
    t_whole : whole_blocks f z s ≡ t
    unfolding whole_blocks
    t_whole = sym et

    total : length s + length {A = ℕ} (replicate n 0) ≡ length s + n
    total = ap (λ (k : ℕ). length s + k) (length-replicate {A = ℕ} n 0)

    whole_coded : (u : S) (x : List ℕ) → over_blocks f (length x / 64) u x ≡ whole_blocks f u x
    unfolding whole_blocks
    whole_coded u x = refl

    -- the zeros do not fill the last block
    pub few_zeros : length s % 64 + n < 64 → (x : List ℕ) → x ≡ past_blocks s ++ replicate n 0
        → over_blocks f (length (x ++ padding (length s + n)) / 64) t (x ++ padding (length s + n)) ≡ over_message f z (s ++ replicate n 0)
    few_zeros h x ex =
        let m : List ℕ = past_blocks s ++ replicate n 0 in
        let l : length m ≡ length s % 64 + n = length-append (past_blocks s) (replicate n 0) ∙ ap₂ (λ (j k : ℕ). j + k) (past_size s) (length-replicate {A = ℕ} n 0) in
        let w : whole_blocks f (whole_blocks f z s) m ≡ t = whole_short f (whole_blocks f z s) m (omega arith) ∙ t_whole in
        let p : past_blocks m ≡ m = past_short m (omega arith) in
        whole_coded t (x ++ padding (length s + n))
        ∙ ap (λ (y : List ℕ). whole_blocks f t (y ++ padding (length s + n))) (ex ∙ sym p)
        ∙ ap₂ (λ (u : S) (k : ℕ). whole_blocks f u (past_blocks m ++ padding k)) (sym w) (sym total)
        ∙ in_parts z s (replicate n 0)

    -- they do: that block, the blocks of the zeros behind it, and those left
    pub many_zeros : 64 ≤ length s % 64 + n → (b x : List ℕ) (u v : S)
        → b ≡ past_blocks s ++ replicate (64 - length s % 64) 0
        → u ≡ f t (take 64 (drop 0 b))
        → v ≡ over_blocks f ((n - (64 - length s % 64)) / 64) u (replicate (n - (64 - length s % 64)) 0)
        → x ≡ replicate ((n - (64 - length s % 64)) % 64) 0
        → over_blocks f (length (x ++ padding (length s + n)) / 64) v (x ++ padding (length s + n)) ≡ over_message f z (s ++ replicate n 0)
    many_zeros h b x u v eb eu ev ex =
        whole_coded v (x ++ padding (length s + n))
        ∙ ap₂ (λ (q : S) (y : List ℕ). whole_blocks f q (y ++ padding (length s + n))) (v_is ∙ sym words) (ex ∙ sym tail)
        ∙ ap (λ (k : ℕ). whole_blocks f (whole_blocks f (whole_blocks f z s) m) (past_blocks m ++ padding k)) (sym total)
        ∙ in_parts z s (replicate n 0)
      where
        room : ℕ
        room = 64 - length s % 64

        m : List ℕ
        m = past_blocks s ++ replicate n 0

        split : replicate {A = ℕ} n 0 ≡ replicate room 0 ++ replicate (n - room) 0
        split = let e : room + (n - room) ≡ n = omega arith in sym (replicate-append-replicate {A = ℕ} room (n - room) 0 ∙ ap (λ (k : ℕ). replicate {A = ℕ} k 0) e)

        enough : 64 ≤ length m
        enough = omega (arith, length-append (past_blocks s) (replicate n 0), past_size s, length-replicate {A = ℕ} n 0)

        cut_64 : length (past_blocks s) + room ≡ 64
        cut_64 = omega (arith, past_size s)

        front : take 64 m ≡ past_blocks s ++ replicate room 0
        front = ap (λ (k : ℕ). take k m) (sym cut_64) ∙ take-append-add (past_blocks s) (replicate n 0) room ∙ ap (λ (y : List ℕ). past_blocks s ++ y) (zeros_front n room (omega arith))

        rest : drop 64 m ≡ replicate (n - room) 0
        rest = ap (λ (k : ℕ). drop k m) (sym cut_64) ∙ drop-append-add (past_blocks s) (replicate n 0) room ∙ zeros_behind n room (omega arith)

        full : length b ≡ 64
        full = ap length eb ∙ length-append (past_blocks s) (replicate room 0) ∙ omega (arith, cut_64, length-replicate {A = ℕ} room 0)

        block : take 64 (drop 0 b) ≡ take 64 m
        block = take_all 64 b (omega (arith, full)) ∙ eb ∙ sym front

        many : length {A = ℕ} (replicate (n - room) 0) ≡ n - room
        many = length-replicate {A = ℕ} (n - room) 0

        v_is : v ≡ whole_blocks f u (replicate (n - room) 0)
        v_is = ev ∙ ap (λ (k : ℕ). over_blocks f (k / 64) u (replicate (n - room) 0)) (sym many) ∙ whole_coded u (replicate (n - room) 0)

        words : whole_blocks f (whole_blocks f z s) m ≡ whole_blocks f u (replicate (n - room) 0)
        words =
            whole_first f (whole_blocks f z s) m enough
            ∙ ap₂ (λ (q : S) (y : List ℕ). whole_blocks f q y) (ap₂ (λ (q : S) (y : List ℕ). f q y) t_whole (sym block) ∙ sym eu) rest

        tail : past_blocks m ≡ replicate ((n - room) % 64) 0
        tail = past_first m enough ∙ ap past_blocks rest ∙ past_zeros (n - room)
