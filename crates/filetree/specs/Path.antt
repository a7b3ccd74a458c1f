-- The path of a file as the walks keep it: an array with two numbers for each element.
-- Assumes nothing.
use Rattle.std.specs.Prelude.{◌≡◌, List, [], ◌∷◌, ℕ, ◌+◌, ◌*◌, set, take}
use Rattle.filetree.specs.Tree.{max_elements, Element}

abbrev pub path_size : ℕ
path_size = 2 * max_elements

-- element d is the key from a to b
abbrev pub set_element : List ℕ → ℕ → ℕ → ℕ → List ℕ
set_element path d a b = set (set path (2 * d) a) (2 * d + 1) b

-- the numbers of a path
unfoldable pub flat : List Element → List ℕ
flat [] = []
flat (e ∷ es) = e.start ∷ e.end ∷ flat es

-- the first d elements of an array are the path p
abbrev pub Holds : List ℕ → ℕ → List Element → Type 0
Holds path d p = take (2 * d) path ≡ flat p
