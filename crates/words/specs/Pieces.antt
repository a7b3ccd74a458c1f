-- 01, "Loading a piece layer" and "Block and piece": what a layer and a piece settle, by layer and index, and when each is of the right form.
-- Assumes nothing.
use Rattle.std.specs.Prelude.{◌≡◌, true, List, ℕ, suc, ◌+◌, ◌-◌, ◌*◌, ◌^◌, ◌<◌, length}
use Rattle.sha256.specs.Sha256.{sha256, pair_hash}
use Rattle.tree.specs.Geometry.{piece_count, block_size, piece_size}
use Rattle.tree.specs.Values.{leaf_of, layer_leaf}
use Rattle.store.specs.Store.{usable, file_length, piece_length, blocks_of, height_of}
use Rattle.pieces.specs.Pieces.{layer_of_pieces, piece_height}
use Rattle.saved.specs.Clauses.{Hashes}
use Rattle.words.specs.Held.{Holds}

-- 2^k leaves stand in layer b, those under number y of the layer k above it; and above two children the hash of left then right
pub data Over (leaf : ℕ → List ℕ) (b y k : ℕ) : ℕ → ℕ → List ℕ → Type 0 where
  at_leaf : (j : ℕ) → j < 2 ^ k → Over leaf b y k b (y * 2 ^ k + j) (leaf j)
  above : (l i : ℕ) (v w : List ℕ) → Over leaf b y k l (2 * i) v → Over leaf b y k l (2 * i + 1) w → Over leaf b y k (suc l) i (pair_hash v w)

-- ---- a layer

-- it passes 9, 3 and 4: the store is usable, the file is longer than the piece length, and the layer has a hash for each piece
pub record LayerFormed (s layer : List ℕ) : Type 0 where
  pub store : usable s ≡ true
  pub longer : piece_length s < file_length s
  pub size : length layer ≡ 32 * piece_count (file_length s) (piece_length s)

-- what it settles: its hashes, padded with layer p's padding value, in layer p, and above two children the hash of left then right
abbrev pub LayerSettles : List ℕ → List ℕ → Hashes
LayerSettles s layer = Over (layer_leaf layer (layer_of_pieces s)) (layer_of_pieces s) 0 (height_of s - layer_of_pieces s)

-- ---- a block

-- it passes 9, 3 and 4: the store is usable, the file has block i, and the block has that block's bytes
pub record BlockFormed (s : List ℕ) (i : ℕ) (block : List ℕ) : Type 0 where
  pub store : usable s ≡ true
  pub inside : i < blocks_of s
  pub size : length block ≡ block_size (file_length s) i

-- 7: leaf i is held, and not with the block's hash
pub record OtherLeaf (s : List ℕ) (i : ℕ) (block : List ℕ) : Type 0 where
  pub w : List ℕ
  pub held : Holds s 0 i w
  pub other : w ≡ sha256 block → ⊥

-- ---- a piece

-- it passes 9, 3 and 4: the store is usable, the file has piece i, and the piece has that piece's bytes
pub record PieceFormed (s : List ℕ) (i : ℕ) (piece : List ℕ) : Type 0 where
  pub store : usable s ≡ true
  pub inside : i < piece_count (file_length s) (piece_length s)
  pub size : length piece ≡ piece_size (file_length s) (piece_length s) i

-- what it settles: under its node, in layer 0, the hashes of its blocks and 32 zero bytes for each missing leaf, and above two children
-- the hash of left then right. Its node is number i of layer p, or the root if the file isn't longer than the piece length
abbrev pub PieceSettles : List ℕ → ℕ → List ℕ → Hashes
PieceSettles s i piece = Over (leaf_of piece) 0 i (piece_height s)
