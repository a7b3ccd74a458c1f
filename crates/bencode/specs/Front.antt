-- How far two strings of bytes are the same.
-- Assumes nothing.
use Rattle.std.specs.Prelude.{◌≡◌, List, ℕ, ◌+◌, ◌≤◌, ◌<◌, length, get_or}

-- their first n bytes are the same
abbrev pub Alike : List ℕ → List ℕ → ℕ → Type 0
Alike x y n = (i : ℕ) → i < n → get_or x i 0 ≡ get_or y i 0

-- four bytes of them from i on are
abbrev pub FourAlike : List ℕ → List ℕ → ℕ → Type 0
FourAlike x y i =
    (get_or x i 0 ≡ get_or y i 0) × (get_or x (i + 1) 0 ≡ get_or y (i + 1) 0) × (get_or x (i + 2) 0 ≡ get_or y (i + 2) 0)
    × (get_or x (i + 3) 0 ≡ get_or y (i + 3) 0)

-- their first n bytes are the same, and no more
pub record Front (x y : List ℕ) (n : ℕ) : Type 0 where
  pub in_first : n ≤ length x
  pub in_second : n ≤ length y
  pub alike : Alike x y n
  pub apart : n < length x → n < length y → get_or x n 0 ≡ get_or y n 0 → ⊥
