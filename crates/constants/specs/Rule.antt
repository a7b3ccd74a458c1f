-- FIPS 180-4, sections 4.2.2 and 5.3.3: what the constants are, "the first thirty-two bits of the fractional parts of the
-- cube roots of the first sixty-four prime numbers", and of the square roots of the first eight.
-- Assumes nothing.
use Rattle.std.specs.Prelude.{◌≡◌, List, ℕ, suc, ◌*◌, ◌%◌, ◌^◌, ◌<◌, ◌≤◌, length, get_or}

-- a number from 2 on that no smaller one from 2 on divides
pub record Prime (p : ℕ) : Type 0 where
  pub from_two : 2 ≤ p
  pub undivided : (d : ℕ) → 2 ≤ d → d < p → p % d ≡ 0 → ⊥

-- rising, each a prime, and every prime below one of them stands before it
pub record FirstPrimes (ps : List ℕ) : Type 0 where
  pub rising : (i : ℕ) → suc i < length ps → get_or ps i 0 < get_or ps (suc i) 0
  pub prime : (i : ℕ) → i < length ps → Prime (get_or ps i 0)
  pub none_left_out : (i q : ℕ) → i < length ps → Prime q → q < get_or ps i 0 → (j : ℕ) × (j < i) × (get_or ps j 0 ≡ q)

-- w is the largest number whose e-th power is at most n
pub record Largest (e n w : ℕ) : Type 0 where
  pub fits : w ^ e ≤ n
  pub largest : (v : ℕ) → v ^ e ≤ n → v ≤ w

-- x is the first 32 bits of the fractional part of p's e-th root
pub record RootWord (e p x : ℕ) : Type 0 where
  pub root : ℕ
  pub is_root : Largest e (p * 2 ^ (32 * e)) root
  pub word : x ≡ root % 2 ^ 32

-- xs are these words of the first primes ps, one each
pub record RootWords (e : ℕ) (ps xs : List ℕ) : Type 0 where
  pub first_primes : FirstPrimes ps
  pub one_each : length xs ≡ length ps
  pub words : (i : ℕ) → i < length xs → RootWord e (get_or ps i 0) (get_or xs i 0)
