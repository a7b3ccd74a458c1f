-- What the functions below the entry points ask for.
-- Assumes nothing.
use Rattle.std.specs.Prelude.{◌≡◌, List, ℕ, ◌-◌, ◌*◌, ◌^◌, ◌≤◌, ◌<◌}
use Rattle.limits.specs.Limits.{tallest_tree}
use Rattle.store.specs.Store.{blocks_of}
use Rattle.marks.specs.Marks.{marks_start, each_piece}
use Rattle.asking.specs.Asking.{run_length}
use Rattle.asking.specs.declared.pick.Disk.{Disk}

-- run j is one of layer l, in a tree of height h; the layer has more than one position
pub record InLayer (h l j : ℕ) : Type 0 where
  pub below : l < h
  pub tall : h ≤ tallest_tree
  pub inside : j * run_length h l < 2 ^ (h - l)

-- d says where the marks of s begin, and how its blocks are shared out among the pieces
pub record DiskOf (s : List ℕ) (d : Disk) : Type 0 where
  pub start : d.start ≡ marks_start s
  pub each : d.each ≡ each_piece s
  pub blocks : d.blocks ≡ blocks_of s
