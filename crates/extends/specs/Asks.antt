-- What the inner functions ask for, and what the last of them gives.
-- Assumes nothing.
use Rattle.std.specs.Prelude.{◌≡◌, Bool, true, cond, ◌&&◌, List, ℕ, ◌/◌, ◌^◌, ◌≤◌, ◌<◌, length, eqb}
use Rattle.octets.specs.Octets.{same}
use Rattle.numbers.specs.Numbers.{no_anchor, differs}
use Rattle.sha256.specs.declared.Hashed.{Hashed}
use Rattle.tree.specs.Geometry.{block_count, covering}
use Rattle.store.specs.Store.{usable, file_length}
use Rattle.extends.specs.Extends.{whole_blocks, rest_size, over_size}

-- neither held nor padding: the position covers whole blocks and more, or the shorter block
pub record Mixed (n l i : ℕ) : Type 0 where
  pub behind : whole_blocks n / 2 ^ l ≤ i
  pub some : i < covering (block_count n) l

-- the store is usable, the earlier file is no longer than its file and ends inside a block, and the block over this end has its size
pub record Inside (s : List ℕ) (n : ℕ) (block : List ℕ) : Type 0 where
  pub store : usable s ≡ true
  pub rest : rest_size n ≡ 0 → ⊥
  pub most : n ≤ file_length s
  pub size : length block ≡ over_size (file_length s) n

-- by the root worked out, and whether the block is the one held
unfoldable pub reaches : Hashed → Bool → List ℕ → ℕ
reaches x right root = cond (eqb x.number 0) (cond (right && same x.hash root) 0 differs) no_anchor
