-- Number n of a list, counted from 0.
-- Assumes nothing.
use Rattle.std.specs.Prelude.{◌≡◌, List, [], ◌∷◌, ℕ, zero, suc}

module _ {A : Type 0} where
  -- x is number n of the list
  unfoldable pub Nth : List A → ℕ → A → Type 0
  Nth [] n x = ⊥
  Nth (y ∷ ys) zero x = x ≡ y
  Nth (y ∷ ys) (suc n) x = Nth ys n x
