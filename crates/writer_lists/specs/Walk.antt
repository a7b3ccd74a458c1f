-- How far two paths are the same: both at one position, behind elements that are the same.
-- Assumes nothing.
use Rattle.std.specs.Prelude.{◌≡◌, Bool, true, List, ℕ, ◌≤◌, length, drop}
use Rattle.writer_lists.specs.Lists.{elements_fit, elements_in}

-- one path from a position on
pub record PathLeft (s : List ℕ) (at : ℕ) : Type 0 where
  pub within : at ≤ length s
  pub steps : ℕ
  pub fits : elements_fit steps (drop at s) ≡ true

-- both paths at one position, and a question whose answer is that of what is left of them
pub record Walk (answer : List (List ℕ) → List (List ℕ) → Bool) (p q : List ℕ) (at : ℕ) : Type 0 where
  pub left : PathLeft p at
  pub right : PathLeft q at
  pub same_answer : answer (elements_in (length p) p) (elements_in (length q) q) ≡ answer (elements_in left.steps (drop at p))
      (elements_in right.steps (drop at q))
