-- What a message, a layer or a piece settles is a list of entries: a position, by its number, and its hash.
-- Assumes nothing.
use Rattle.std.specs.Prelude.{List, [], ◌∷◌, Bool, true, false, not, ◌&&◌, ◌||◌, ℕ, zero, suc, ◌+◌}
use Rattle.octets.specs.Octets.{same}
use Rattle.cells.specs.Cells.{held_at, hash_at, put}

pub record Entry : Type 0 where
  pub at : ℕ
  pub hash : List ℕ

abbrev pub one : ℕ → List ℕ → List Entry
one n h = record { at = n; hash = h } ∷ []

-- position n is not held, or held with v
unfoldable pub agrees_at : List ℕ → ℕ → List ℕ → Bool
agrees_at s n v = not (held_at s n) || same (hash_at s n) v

-- no held hash differs from an entry
unfoldable pub agrees : List ℕ → List Entry → Bool
agrees s [] = true
agrees s (e ∷ L) = agrees_at s e.at e.hash && agrees s L

-- the store in which all entries are held
unfoldable pub put_all : List ℕ → List Entry → List ℕ
put_all s [] = s
put_all s (e ∷ L) = put_all (put s e.at e.hash) L

abbrev pub one_if : Bool → ℕ
one_if true = 1
one_if false = 0

-- how many positions, from the root's 1 up to b - 1, are held in s' and not in s
unfoldable pub newly : ℕ → List ℕ → List ℕ → ℕ
newly zero s s' = 0
newly (suc zero) s s' = 0
newly (suc (suc n)) s s' = newly (suc n) s s' + one_if (held_at s' (suc n) && not (held_at s (suc n)))

-- 1 where position n is not held
unfoldable pub lacks : List ℕ → ℕ → ℕ
lacks s n = one_if (not (held_at s n))

-- how many positions taking the entries makes held, counted one after the other
unfoldable pub fresh : List ℕ → List Entry → ℕ
fresh s [] = 0
fresh s (e ∷ L) = lacks s e.at + fresh (put s e.at e.hash) L
