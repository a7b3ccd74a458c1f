-- 01, "The torrent", 25: the files of the part t of a torrent that is the value of `file tree`, from its `d` to its `e`, in tree order.
-- Positions are positions in t. A directory inside takes a level; nodes side by side take a step each.
-- Assumes nothing.
use Rattle.std.specs.Prelude.{Bool, true, false, cond, List, [], ◌∷◌, ◌++◌, ℕ, zero, suc, ◌+◌, ◌-◌, length, drop, eqb, Option, Some, None}
use Rattle.limits.specs.Limits.{max_levels}
use Rattle.filetree.specs.Token.{ends_here, token_at}
use Rattle.filetree.specs.declared.token.Token.{Token}
use Rattle.filetree.specs.declared.token.Token.TheVariants.{Opened, Closed, Leaf}

-- with the file's dictionary, `file tree`, `info` and the torrent a path of so many elements has 32 levels
abbrev pub max_elements : ℕ
max_elements = max_levels - 4

-- a path element is the key from `start` to `end`
pub record Element : Type 0 where
  pub start : ℕ
  pub end : ℕ

-- a file: its length, the position of its root's 32 bytes (0 of an empty file, which has none), and its path
pub record Listed : Type 0 where
  pub size : ℕ
  pub root : ℕ
  pub path : List Element

-- files in order and the position past them; or something is wrong
pub data Files : Type 0 where
  wrong : Files
  files : List Listed → ℕ → Files

-- the path with one element more
abbrev pub down : List Element → ℕ → ℕ → List Element
down path a b = path ++ record { start = a; end = b } ∷ []

abbrev pub listed_as : ℕ → ℕ → List Element → Listed
listed_as n r path = record { size = n; root = r; path = path }

-- files, and others behind them
abbrev pub after : List Listed → Files → Files
after fs wrong = wrong
after fs (files gs k) = files (fs ++ gs) k

-- files, and those from the position past them on
abbrev pub onward : Files → (ℕ → Files) → Files
onward wrong go = wrong
onward (files fs k) go = after fs (go k)

-- from one token on; `sub` has the files of a directory inside, `go` those from a position of this one on
abbrev pub on_token : (ℕ → List Element → Files) → (ℕ → Files) → ℕ → List Element → Option Token → Files
on_token sub go at path None = wrong
on_token sub go at path (Some Closed) = files [] (at + 1)
on_token sub go at path (Some (Opened a b)) = onward (sub (b + 1) (down path a b)) go
on_token sub go at path (Some (Leaf a b n r k)) = after (listed_as n r (down path a b) ∷ []) (go k)

-- each token takes a byte, so that more steps than bytes are enough
unfoldable pub files_from : (ℕ → List Element → Files) → ℕ → List ℕ → ℕ → List Element → Files
files_from sub zero t at path = wrong
files_from sub (suc steps) t at path = on_token sub (λ k. files_from sub steps t k path) at path (token_at t at)

-- the files of the directory `path`, whose first entry is at `at`, with so many levels left
unfoldable pub files_below : ℕ → List ℕ → ℕ → List Element → Files
files_below zero t at path = wrong
files_below (suc levels) t at path = files_from (files_below levels t) (suc (length t)) t at path

-- the files of the whole tree; an empty one is wrong
unfoldable pub files_in : List ℕ → Files
files_in t = cond (ends_here (drop 1 t)) wrong (files_below max_elements t 1 [])

unfoldable pub right : Files → Bool
right wrong = false
right (files fs k) = true

unfoldable pub listed : Files → List Listed
listed wrong = []
listed (files fs k) = fs

-- file n, from 0
abbrev pub no_file : Listed
no_file = listed_as 0 0 []

unfoldable pub file_number : List Listed → ℕ → Listed
file_number [] n = no_file
file_number (f ∷ fs) zero = f
file_number (f ∷ fs) (suc n) = file_number fs n

-- where the roots of the files that are not empty stand
unfoldable pub roots_of : List Listed → List ℕ
roots_of [] = []
roots_of (f ∷ fs) = cond (eqb f.size 0) (roots_of fs) (f.root ∷ roots_of fs)
