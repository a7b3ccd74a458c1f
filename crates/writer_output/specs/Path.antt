-- A path from a position on, and how far two paths are the same.
-- Assumes nothing.
use Rattle.std.specs.Prelude.{◌≡◌, true, List, ℕ, ◌-◌, ◌≤◌, length, drop}
use Rattle.writer_meaning.specs.Written.{shared}
use Rattle.writer_lists.specs.Lists.{elements_fit, elements_in}

abbrev pub path_in : List ℕ → List (List ℕ)
path_in s = elements_in (length s) s

-- the elements from a position on
abbrev pub left_in : List ℕ → ℕ → List (List ℕ)
left_in s at = path_in (drop at s)

-- an element begins at the position, or the path ends there; what is left is elements
pub record Standing (s : List ℕ) (at : ℕ) : Type 0 where
  pub within : at ≤ length s
  pub fits : elements_fit (length (drop at s)) (drop at s) ≡ true

-- up to the position both have the elements that they share: the first closes what it has behind it, the second opens it
pub record SharedTo (p q : List ℕ) (at : ℕ) : Type 0 where
  pub first : Standing p at
  pub second : Standing q at
  pub closes : length (left_in p at) ≡ length (path_in p) - shared (path_in p) (path_in q)
  pub opens : left_in q at ≡ drop (shared (path_in p) (path_in q)) (path_in q)
