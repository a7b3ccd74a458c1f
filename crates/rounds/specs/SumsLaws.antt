-- A block's rounds by the sums of its words are the block's rounds.
-- Assumes nothing.
use Rattle.std.specs.Prelude.{◌≡◌, length, get_or, List, [], ℕ, zero, suc, ◌+◌, ◌-◌, ◌%◌, ◌^◌, ◌<◌, ◌≤◌}
use Rattle.std.proofs.Math.Path.{refl, ap}
use Rattle.std.proofs.Common.{sym, ◌∙◌, arith, length-append}
use Rattle.std.proofs.Math.Nat.{zero-add, suc-add}
use Rattle.std.proofs.Math.ListN.{get_or-append}
use Rattle.std.proofs.lemmas.List.{get_or_at}
use Rattle.bits.specs.Words.{Ch, Σ₁}
use Rattle.rounds.specs.declared.State.{State}
use Rattle.rounds.specs.Block.{T₁, round, rounds, plus, schedule, compress}
use Rattle.rounds.specs.Sums.{sums, rounds_by}

pub length_sums : (n : ℕ) (ks ws : List ℕ) → length (sums n ks ws) ≡ n
unfolding sums
length_sums zero ks ws = refl
length_sums (suc n) ks ws = simp (length-append, length_sums n ks ws) (omega arith)

sum_first : (a k w : ℕ) → (a + (k + w) % 2 ^ 32 + 0) % 2 ^ 32 ≡ (a + k + w) % 2 ^ 32
sum_first a k w = omega arith

T₁_sum : (s : State) (k w : ℕ) → T₁ s ((k + w) % 2 ^ 32) 0 ≡ T₁ s k w
unfolding T₁
T₁_sum s k w = sum_first (s.h + Σ₁ s.e + Ch s.e s.f s.g) k w

round_sum : (s : State) (k w : ℕ) → round s ((k + w) % 2 ^ 32) 0 ≡ round s k w
unfolding round
round_sum s k w = rw (T₁_sum s k w)

module _ (ks ws : List ℕ) where
  after : (d i : ℕ) → get_or (sums (d + suc i) ks ws) i 0 ≡ (get_or ks i 0 + get_or ws i 0) % 2 ^ 32
  unfolding sums
  after zero i = rw zero-add (get_or_at (sums i ks ws) _ [] 0 i (length_sums i ks ws))
  after (suc d) i = rw suc-add (get_or-append (sums (d + suc i) ks ws) _ 0 i (omega (arith, length_sums (d + suc i) ks ws)) ∙ after d i)

  pub sum_at : (n i : ℕ) → i < n → get_or (sums n ks ws) i 0 ≡ (get_or ks i 0 + get_or ws i 0) % 2 ^ 32
  sum_at n i h =
      let e : n - suc i + suc i ≡ n = omega arith in
      ap (λ (k : ℕ). get_or (sums k ks ws) i 0) (sym e) ∙ after (n - suc i) i

  rounds_by_sums : (z : State) (n i : ℕ) → i ≤ n → rounds_by (sums n ks ws) i z ≡ rounds ks ws i z
  unfolding rounds_by rounds
  rounds_by_sums z n zero h = refl
  rounds_by_sums z n (suc i) h =
      ap (λ (t : State). round t (get_or (sums n ks ws) i 0) 0) (rounds_by_sums z n i (omega arith))
      ∙ ap (λ (x : ℕ). round (rounds ks ws i z) x 0) (sum_at n i h)
      ∙ round_sum (rounds ks ws i z) (get_or ks i 0) (get_or ws i 0)

pub compress_by_sums : (ks m : List ℕ) (s : State) → plus s (rounds_by (sums 64 ks (schedule 48 m)) 64 s) ≡ compress ks s m
unfolding compress
compress_by_sums ks m s = ap (plus s) (rounds_by_sums ks (schedule 48 m) s 64 64 (omega arith))
