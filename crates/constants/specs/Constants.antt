-- FIPS 180-4, sections 4.2.2 and 5.3.3: the constants, computed. ConstantsLaws shows that they keep the rule.
-- Assumes nothing.
use Rattle.std.specs.Prelude.{Bool, true, false, cond, List, [], ◌∷◌, map, ℕ, zero, suc, ◌+◌, ◌-◌, ◌*◌, ◌%◌, ◌^◌, take, leb, eqb}

-- the largest w below 2 ^ b + from with w ^ e ≤ n, where from is one such: a bit at a time
unfoldable pub root : ℕ → ℕ → ℕ → ℕ → ℕ
root e n zero from = from
root e n (suc b) from = root e n b (cond (leb ((from + 2 ^ b) ^ e) n) (from + 2 ^ b) from)

-- no number from 2 to d divides n
unfoldable pub indivisible : ℕ → ℕ → Bool
indivisible n zero = true
indivisible n (suc zero) = true
indivisible n (suc (suc d)) = cond (eqb (n % suc (suc d)) 0) false (indivisible n (suc d))

-- the primes among the k numbers from n on, n at least 2
unfoldable pub primes_from : ℕ → ℕ → List ℕ
primes_from zero n = []
primes_from (suc k) n = cond (indivisible n (n - 1)) (n ∷ primes_from k (suc n)) (primes_from k (suc n))

-- the first 64 primes: those below 312
unfoldable pub primes : List ℕ
primes = primes_from 310 2

unfoldable pub root_word : ℕ → ℕ → ℕ
root_word e p = root e (p * 2 ^ (32 * e)) 38 0 % 2 ^ 32

-- the 64 round words
unfoldable pub K : List ℕ
K = map (root_word 3) primes

-- the eight start words
unfoldable pub H : List ℕ
H = map (root_word 2) (take 8 primes)
