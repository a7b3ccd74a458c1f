-- 02, request 5: what a right path element is, as a relation, and how a path is followed from a folder.
-- Assumes nothing.
use Rattle.std.specs.Prelude.{◌≡◌, cond, ◌||◌, List, [], ◌∷◌, ◌++◌, ℕ, eqb}
use Rattle.octets.specs.Octets.{same}
use Rattle.meaning.specs.Counting.{Member}
use Rattle.meaning.specs.Torrent.{dot, dots, slash}

-- not empty, not `.` or `..`, no `/` and no zero byte
pub record StaysInside (e : List ℕ) : Type 0 where
  pub not_empty : e ≡ [] → ⊥
  pub not_dot : e ≡ dot → ⊥
  pub not_dots : e ≡ dots → ⊥
  pub no_slash : Member slash e → ⊥
  pub no_zero : Member 0 e → ⊥

-- so is each element of a path
unfoldable pub AllStay : List (List ℕ) → Type 0
AllStay [] = Unit {0}
AllStay (e ∷ es) = StaysInside e × AllStay es

-- ---- a path as it is handed to the system: its elements with a `/` between them, up to the first zero byte

unfoldable pub written : List (List ℕ) → List ℕ
written [] = []
written (e ∷ []) = e
written (e ∷ f ∷ es) = e ++ slash ∷ written (f ∷ es)

unfoldable pub to_zero : List ℕ → List ℕ
to_zero [] = []
to_zero (c ∷ cs) = cond (eqb c 0) [] (c ∷ to_zero cs)

-- ---- how the system follows it

-- a location is the names that lead to it from the top
abbrev pub Location : Type 0
Location = List (List ℕ)

-- the location above; above the top is the top itself
unfoldable pub above : Location → Location
above [] = []
above (x ∷ []) = []
above (x ∷ y ∷ ys) = x ∷ above (y ∷ ys)

-- one name is one step: an empty one and `.` stay, `..` goes up, every other goes down
unfoldable pub step : Location → List ℕ → Location
step here name = cond (same name [] || same name dot) here (cond (same name dots) (above here) (here ++ (name ∷ [])))

unfoldable pub walk : Location → List (List ℕ) → Location
walk here [] = here
walk here (name ∷ names) = walk (step here name) names

-- the names between slashes
abbrev pub ahead : ℕ → List (List ℕ) → List (List ℕ)
ahead c [] = (c ∷ []) ∷ []
ahead c (name ∷ names) = (c ∷ name) ∷ names

unfoldable pub split : List ℕ → List (List ℕ)
split [] = [] ∷ []
split (c ∷ cs) = cond (eqb c slash) ([] ∷ split cs) (ahead c (split cs))

-- where a text leads from a location: one that begins with `/` leads from the top
unfoldable pub follow : Location → List ℕ → Location
follow here [] = here
follow here (c ∷ cs) = cond (eqb c slash) (walk [] (split cs)) (walk here (split (c ∷ cs)))

-- a location in a folder is the folder's names and others behind them
abbrev pub InFolder : Location → Location → Type 0
InFolder folder here = (name : List ℕ) × ((names : List (List ℕ)) × (here ≡ folder ++ (name ∷ names)))
