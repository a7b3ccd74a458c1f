-- docs/LAYOUT.md: the cells of a store. Position n (1 is the root, 2n and 2n + 1 are the children of n) has the 33 bytes from
-- 64 + 33·(n - 1) on: a mark, 1 where the position is held, and its hash. (64 + 33·(n - 1) is written 31 + 33·n.)
-- Assumes nothing.
use Rattle.std.specs.Prelude.{List, ◌∷◌, Bool, ℕ, ◌+◌, ◌*◌, ◌≤◌, length, get_or, eqb}
use Rattle.octets.specs.Octets.{cut, pasted}

-- the store has the cells of the positions below b
abbrev pub Room : ℕ → List ℕ → Type 0
Room b s = 31 + 33 * b ≤ length s

-- held is one mark value; every other is read as not held
unfoldable pub held_at : List ℕ → ℕ → Bool
held_at s n = eqb (get_or s (31 + 33 * n) 0) 1

unfoldable pub hash_at : List ℕ → ℕ → List ℕ
hash_at s n = cut s (32 + 33 * n) 32

-- the store in which n is held with h
unfoldable pub put : List ℕ → ℕ → List ℕ → List ℕ
put s n h = pasted s (31 + 33 * n) (1 ∷ h)
