-- A subtree in a heap of hashes: hash x stands at 32 x, its children are 2 x and 2 x + 1, and the m leaves stand from m on.
-- Assumes nothing.
use Rattle.std.specs.Prelude.{◌≡◌, List, ℕ, zero, suc, ◌+◌, ◌*◌, ◌/◌, ◌<◌, ◌≤◌, length}
use Rattle.octets.specs.Octets.{cut}
use Rattle.sha256.specs.Sha256.{pair_hash}
use Rattle.lanes.specs.Hashes.{parent_of}

-- hash x of a heap
abbrev pub hash_in : List ℕ → ℕ → List ℕ
hash_in heap x = cut heap (32 * x) 32

-- every hash whose children are in the heap is their parent
pub record Parents (heap : List ℕ) : Type 0 where
  pub each : (x : ℕ) → 1 ≤ x → 64 * x + 64 ≤ length heap → hash_in heap x ≡ parent_of heap x

-- leaves that are the hashes of a run, and past them a given value
pub record Over (run past : List ℕ) (leaf : ℕ → List ℕ) : Type 0 where
  pub within : (i : ℕ) → i < length run / 32 → leaf i ≡ cut run (32 * i) 32
  pub beyond : (i : ℕ) → length run / 32 ≤ i → leaf i ≡ past

-- a heap over the m leaves from number j · m on: every hash before them is the parent of its children
pub record Worked (leaf : ℕ → List ℕ) (m j : ℕ) (heap : List ℕ) : Type 0 where
  pub size : length heap ≡ 64 * m
  pub parents : (x : ℕ) → 1 ≤ x → x < m → cut heap (32 * x) 32 ≡ parent_of heap x
  pub leaves : (y : ℕ) → y < m → cut heap (32 * (m + y)) 32 ≡ leaf (j * m + y)

-- the node k layers above leaves that are all one value
unfoldable pub raised : List ℕ → ℕ → List ℕ
raised v zero = v
raised v (suc k) = pair_hash (raised v k) (raised v k)
