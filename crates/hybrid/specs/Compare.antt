-- 02, request 12: what the walk over the tree says of its files beside those of `files`.
-- Assumes nothing.
use Prim.{Unit}
use Rattle.std.specs.Prelude.{◌≡◌, List, ℕ, ◌-◌, ◌*◌, ◌≤◌, ◌<◌, length, take, Option, Some, None}
use Rattle.bencode.specs.Grammar.{Items}
use Rattle.filetree.specs.Tree.{max_elements, Element, Listed, files, files_below}
use Rattle.filetree.specs.Path.{Holds}
use Rattle.filetree.specs.Reading.{read_files}
use Rattle.hybrid.specs.Meet.{Left, differ, left, after_files}
use Rattle.hybrid.specs.Ahead.{Ahead, AllInside}
use Rattle.hybrid.specs.declared.Compared.{Compared}

-- one file met: what is left of `files` stands where it says
abbrev pub MetIs : List ℕ → Left → Option ℕ → Type 0
MetIs v differ r = r ≡ None
MetIs v (left us) r = (d : ℕ) × (r ≡ Some d) × Ahead v d us

-- the position past a directory, and where the list goes on behind its files
abbrev pub past : ℕ → ℕ → Option Compared
past k d = Some (record { next = k; cursor = d })

-- a directory's files met, which ends at k
abbrev pub OutcomeIs : List ℕ → ℕ → Left → Option Compared → Type 0
OutcomeIs v k differ r = r ≡ None
OutcomeIs v k (left us) r = (d : ℕ) × (r ≡ past k d) × Ahead v d us

abbrev pub ComparedIn : ℕ → ℕ → Option Compared → Type 0
ComparedIn at end None = Unit {0}
ComparedIn at end (Some w) = (at < w.next) × (w.next ≤ end)

pub record Compares (t v : List ℕ) (at levels c : ℕ) (path₀ path : List ℕ) (r : Option Compared) : Type 0 where
  pub ends : ComparedIn at (length t) r
  -- the path to the directory is still there
  pub kept : take (2 * (max_elements - levels)) path ≡ take (2 * (max_elements - levels)) path₀
  pub compares : (p : List Element) → Holds path₀ (max_elements - levels) p → AllInside (length t) p → (fs : List Listed) (k : ℕ) → files_below levels t at p ≡ files fs k
      → (vs : Items) → Ahead v c vs → OutcomeIs v k (after_files vs (read_files t fs)) r
