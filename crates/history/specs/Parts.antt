-- The parts that a burst is taken in: bytes within a block, or eight whole blocks. Only private functions' contracts cite it.
-- Assumes nothing.
use Rattle.std.specs.Prelude.{◌≡◌, List, [], true, ℕ, ◌+◌, ◌*◌, ◌/◌, ◌%◌, ◌≤◌, ◌<◌, length}
use Rattle.running.specs.Bursts.{state_of}
use Rattle.tree.specs.Geometry.{block_length, is_piece_length}
use Rattle.history.specs.Growing.{node_count, finishing, grown_by, noted_by}
use Rattle.history.specs.declared.History.{History}

-- no block is under way
pub record NoneBegun (s : History) : Type 0 where
  pub whole : s.length % block_length ≡ 0
  pub words : s.block.words ≡ (state_of []).words
  pub tail : s.block.tail_size ≡ 0
  pub total : s.block.total ≡ 0

-- k bytes within the block under way, or eight whole blocks
pub record Part (s : History) (k : ℕ) : Type 0 where
  pub within : k ≤ block_length → s.length % block_length + k ≤ block_length
  pub eight : block_length < k → (k ≡ 8 * block_length) × NoneBegun s
  pub inside : s.block.total ≡ s.length % block_length
  pub tail : s.block.tail_size ≡ s.block.total % 64

-- how many bytes, of so many that are left
pub record PartSize (s : History) (left r : ℕ) : Type 0 where
  pub some : 0 < left → 0 < r
  pub most : r ≤ left
  pub within : r ≤ block_length → s.length % block_length + r ≤ block_length
  pub eight : block_length < r → (r ≡ 8 * block_length) × (s.length % block_length ≡ 0) × (s.block.words ≡ (state_of []).words)

-- each piece that k bytes run past has its place in a layer of m
pub record Due (s : History) (k m : ℕ) : Type 0 where
  pub pieces : is_piece_length s.piece_length ≡ true
  pub places : (n : ℕ) → s.length ≤ n → n < s.length + k → 0 < n → n % s.piece_length ≡ 0 → 32 * (n / s.piece_length) ≤ m

-- the state after a whole block with this leaf, where none is under way
unfoldable pub with_leaf : History → List ℕ → History
with_leaf s leaf =
    record {
      piece_length = s.piece_length;
      length = s.length + block_length;
      block = state_of [];
      nodes = finishing node_count s.nodes 0 (s.length / block_length) leaf;
    }

-- a part's bytes make r of the state s, and layer' of the layer
pub record Grows (s : History) (part layer : List ℕ) (r : History) (layer' : List ℕ) : Type 0 where
  pub state : r ≡ grown_by s part
  pub noted : layer' ≡ noted_by s layer part
  pub kept : r.piece_length ≡ s.piece_length
  pub length_then : r.length ≡ s.length + length part
  pub inside : r.block.total ≡ r.length % block_length
  pub tail : r.block.tail_size ≡ r.block.total % 64
