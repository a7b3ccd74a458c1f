-- What is counted of the files of a tree.
-- Assumes nothing.
use Rattle.std.specs.Prelude.{◌≡◌, true, cond, List, ℕ, ◌+◌, ◌*◌, ◌/◌, ◌≤◌, length, eqb, Option, Some, None}
use Rattle.limits.specs.Limits.{largest_torrent}
use Rattle.octets.specs.Octets.{pasted}
use Rattle.filetree.specs.Tree.{Element, Listed, Files, wrong, files, files_below, right, listed, roots_of}
use Rattle.filetree.specs.declared.count.Tally.{Tally}
use Rattle.filetree.specs.declared.count.Counted.{Counted}

-- a file that is not empty takes 64 bytes or more: the largest torrent has no more of them
abbrev pub most_roots : ℕ
most_roots = largest_torrent / 64

abbrev pub no_tally : Tally
no_tally = record { files = 0; roots = 0 }

-- with one file of n bytes more
unfoldable pub tally_with : ℕ → Tally → Tally
tally_with n c = record { files = c.files + 1; roots = cond (eqb n 0) c.roots (c.roots + 1) }

-- with the files fs
unfoldable pub tally_after : Tally → List Listed → Tally
tally_after c fs = record { files = c.files + length fs; roots = c.roots + length (roots_of fs) }

-- the position past a directory, with what is counted then
abbrev pub past : ℕ → Tally → Option Counted
past k c = Some (record { next = k; tally = c })

unfoldable pub counted_of : Tally → Files → Option Counted
counted_of c wrong = None
counted_of c (files fs k) = past k (tally_after c fs)

-- a file takes a byte of those up to `at`, one that is not empty 64
pub record Within (at : ℕ) (c : Tally) : Type 0 where
  pub few_files : c.files ≤ at
  pub few_roots : 64 * c.roots ≤ at

abbrev pub CountedIn : Option Counted → Type 0
CountedIn None = Unit {0}
CountedIn (Some w) = Within w.next w.tally

-- what counting a directory says of it, under any path
pub record Counts (t : List ℕ) (at levels : ℕ) (before : Tally) (roots after : List ℕ) (r : Option Counted) : Type 0 where
  pub counted : (path : List Element) → r ≡ counted_of before (files_below levels t at path)
  pub kept : (path : List Element) → right (files_below levels t at path) ≡ true → after ≡ pasted roots before.roots (roots_of (listed (files_below levels t at path)))
  pub within : CountedIn r
