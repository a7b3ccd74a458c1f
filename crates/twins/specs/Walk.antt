-- The files of a right tree met one after the other, a directory at a time: what is known before a directory, and what of it then. Only a
-- private function's contract cites this.
-- Assumes nothing.
use Rattle.std.specs.Prelude.{◌≡◌, true, false, List, ℕ, ◌≤◌, ◌<◌, length, get_or, Option, Some, None}
use Rattle.octets.specs.Octets.{cut}
use Rattle.meaning.specs.Torrent.{lengths_agree}
use Rattle.filetree.specs.Tree.{Element, Listed, files, files_below}
use Rattle.filetree.specs.Reading.{read_files}
use Rattle.twins.specs.Twins.{layer_count, length_known, size_noted, RootsStand}
use Rattle.twins.specs.declared.Noted.{Noted}

-- the files `done` are met: their lengths agree, `layered` layers are theirs, and at each root's place stands a file with the length that is
-- known of it
pub record Known (t roots : List ℕ) (count plen : ℕ) (room : List ℕ) (done : List Listed) (layered : ℕ) : Type 0 where
  pub agree : lengths_agree (read_files t done) ≡ true
  pub counted : layered ≡ layer_count plen (read_files t done)
  pub noted : (j : ℕ) → j < count → size_noted t (get_or room j 0) ≡ length_known (cut t (get_or roots j 0) 32) (read_files t done)
  pub sized : count ≤ length room

-- with so many levels left a directory is ahead, and it is right: `inside` are its files, `done` those met before
pub record Ahead (t roots : List ℕ) (count plen at levels : ℕ) (room : List ℕ) (before : ℕ) : Type 0 where
  pub path : List Element
  pub done : List Listed
  pub inside : List Listed
  pub end : ℕ
  pub is : files_below levels t at path ≡ files inside end
  pub known : Known t roots count plen room done before
  pub stand : RootsStand t roots count inside
  pub some : 0 < at
  pub few : before ≤ at

-- the position past a directory, and how many layers the files up to there have
abbrev pub past : ℕ → ℕ → Option Noted
past k layered = Some (record { next = k; layered = layered })

-- what is then said of the directory: all of its files are met too, or with them two of one root have different lengths
abbrev pub Compares : List ℕ → List ℕ → ℕ → ℕ → List Listed → ℕ → List ℕ → Option Noted → Type 0
Compares t roots count plen fs end room (Some w) = (w.next ≡ end) × (w.layered ≤ w.next) × Known t roots count plen room fs w.layered
Compares t roots count plen fs end room None = lengths_agree (read_files t fs) ≡ false
