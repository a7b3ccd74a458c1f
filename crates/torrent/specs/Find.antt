-- A file of a right tree found by its number, with its path: what the walk says of a directory, of the file, of an element of its path.
-- Assumes nothing.
use Rattle.std.specs.Prelude.{◌≡◌, List, ℕ, ◌+◌, ◌-◌, ◌*◌, ◌≤◌, ◌<◌, length, get_or}
use Rattle.limits.specs.Limits.{largest_torrent}
use Rattle.filetree.specs.Tree.{max_elements, Element, Listed, files, files_below, file_number}
use Rattle.filetree.specs.Path.{path_size, Holds}
use Rattle.torrent.specs.Torrent.{PartRead, element_in}
use Rattle.torrent.specs.declared.one.SoughtFile.{SoughtFile}
use Rattle.torrent.specs.declared.one.Search.{Search}
use Rattle.torrent.specs.declared.one.Search.TheVariants.{Here, Past, WrongTree}

abbrev pub sought_file : Listed → SoughtFile
sought_file f = record { length = f.size; root = f.root; elements = length f.path }

-- where the walk goes on lies behind `at`, within the bytes
abbrev pub SearchIn : ℕ → ℕ → Search → Type 0
SearchIn at end WrongTree = Unit {0}
SearchIn at end (Here p) = Unit {0}
SearchIn at end (Past k m) = (at < k) × (k ≤ end)

-- file n is found, with its path; or the directory has no more than n files, and the path to it is kept
abbrev pub Found : List Listed → ℕ → ℕ → List Element → ℕ → List ℕ → Search → Type 0
Found fs k n p d path r =
    (n < length fs → (r ≡ Here (sought_file (file_number fs n))) × Holds path (length (file_number fs n).path) (file_number fs n).path)
    × (length fs ≤ n → (r ≡ Past k (n - length fs)) × Holds path d p)

-- what the search in a directory says, where the array has the path to it and the directory is right
pub record Finds (t : List ℕ) (at levels n : ℕ) (path₀ path : List ℕ) (r : Search) : Type 0 where
  pub ends : SearchIn at (length t) r
  pub finds : (p : List Element) → Holds path₀ (max_elements - levels) p → (fs : List Listed) (k : ℕ) → files_below levels t at p ≡ files fs k → Found fs k n p (max_elements - levels) path r

-- a file that was found
pub record FoundFile (path : List ℕ) (f : Listed) (r : SoughtFile) : Type 0 where
  pub place : r ≡ sought_file f
  pub holds : Holds path (length f.path) f.path

-- an array with the elements of a path, which lie within a tree that begins at `base` of the torrent
pub record PathGiven (path : List ℕ) (elements base : ℕ) : Type 0 where
  pub sized : length path ≡ path_size
  pub few : elements ≤ max_elements
  pub forward : (j : ℕ) → j < elements → get_or path (2 * j) 0 ≤ get_or path (2 * j + 1) 0
  pub inside : (j : ℕ) → j < elements → base + get_or path (2 * j + 1) 0 ≤ largest_torrent

-- element k of it
abbrev pub ElementRead : List ℕ → ℕ → ℕ → ℕ → PartRead → Type 0
ElementRead path elements base k r = (p : List Element) → Holds path elements p → elements ≡ length p → r ≡ element_in base p k
