-- Strings of bytes, as lists of numbers: a part, a list with a part replaced, two lists compared, numbers written most significant byte first.
-- Assumes nothing.
use Rattle.std.specs.Prelude.{◌≡◌, List, [], ◌∷◌, ◌++◌, Bool, true, false, ◌&&◌, ℕ, zero, suc, ◌+◌, ◌*◌, ◌/◌, ◌%◌, ◌^◌, ◌<◌, length, take, drop, get_or, replicate, eqb}

-- l is a string of n bytes
pub record Octets (n : ℕ) (l : List ℕ) : Type 0 where
  pub size : length l ≡ n
  pub bytes : (i : ℕ) → i < n → get_or l i 0 < 256

-- n bytes from `at` on
unfoldable pub cut : List ℕ → ℕ → ℕ → List ℕ
cut s at n = take n (drop at s)

-- s with the bytes from `at` on replaced by h
unfoldable pub pasted : List ℕ → ℕ → List ℕ → List ℕ
pasted s at h = take at s ++ h ++ drop (at + length h) s

-- whether two lists are the same, byte for byte
unfoldable pub same : List ℕ → List ℕ → Bool
same [] [] = true
same [] (y ∷ ys) = false
same (x ∷ xs) [] = false
same (x ∷ xs) (y ∷ ys) = eqb x y && same xs ys

-- a number as k bytes, the most significant first
abbrev pub be : ℕ → ℕ → List ℕ
be zero n = []
be (suc k) n = (n / 256 ^ k) % 256 ∷ be k n

-- the number that k bytes from `at` on write, the most significant first
unfoldable pub number_at : List ℕ → ℕ → ℕ → ℕ
number_at s at zero = 0
number_at s at (suc k) = number_at s at k * 256 + get_or s (at + k) 0

-- s with its first n bytes zero
unfoldable pub zeroed : List ℕ → ℕ → List ℕ
zeroed s n = replicate n 0 ++ drop n s

-- 32 zero bytes
unfoldable pub zero_hash : List ℕ
zero_hash = replicate 32 0
