-- 01, "The tree", and BEP 52: the hashes of a file's tree. A string of bytes is a list of numbers.
-- Assumes nothing.
use Rattle.std.specs.Prelude.{cond, List, [], ◌++◌, ℕ, zero, suc, ◌+◌, ◌-◌, ◌*◌, ◌/◌, ◌^◌, length, ltb}
use Rattle.octets.specs.Octets.{cut, zero_hash}
use Rattle.sha256.specs.Sha256.{sha256, pair_hash}
use Rattle.tree.specs.Geometry.{block_length, block_count, height, covering}

-- the node k layers above the leaves, number j from the left: SHA-256 of left child then right child
unfoldable pub node : (ℕ → List ℕ) → ℕ → ℕ → List ℕ
node leaf zero j = leaf j
node leaf (suc k) j = pair_hash (node leaf k (2 * j)) (node leaf k (2 * j + 1))

-- the value of every padding position of layer l: 32 zero bytes, and above them the hash of two of the layer below
unfoldable pub pad_value : ℕ → List ℕ
pad_value zero = zero_hash
pad_value (suc l) = pair_hash (pad_value l) (pad_value l)

-- block i of a file; the last one at its own length, never filled up
unfoldable pub block_of : List ℕ → ℕ → List ℕ
block_of file i = cut file (block_length * i) block_length

-- layer 0: the hashes of the blocks, then 32 zero bytes for each missing leaf
unfoldable pub leaf_of : List ℕ → ℕ → List ℕ
leaf_of file i = cond (ltb i (block_count (length file))) (sha256 (block_of file i)) zero_hash

-- the pieces root: the node at layer h
unfoldable pub pieces_root : List ℕ → List ℕ
pieces_root file = node (leaf_of file) (height (block_count (length file))) 0

-- piece i of a file, for a piece length of 16384·2^p
unfoldable pub piece_of : List ℕ → ℕ → ℕ → List ℕ
piece_of file p i = cut file (block_length * 2 ^ p * i) (block_length * 2 ^ p)

-- the string of the first c hashes of layer p
unfoldable pub layer_of : List ℕ → ℕ → ℕ → List ℕ
layer_of file p zero = []
layer_of file p (suc c) = layer_of file p c ++ node (leaf_of file) p c

-- the string of layer p's hashes that aren't padding; of the piece layer, what a torrent's `piece layers` hold
unfoldable pub whole_layer : List ℕ → ℕ → List ℕ
whole_layer file p = layer_of file p (covering (block_count (length file)) p)

-- layer p from the string of its hashes that aren't padding
unfoldable pub layer_leaf : List ℕ → ℕ → ℕ → List ℕ
layer_leaf layer p i = cond (ltb i (length layer / 32)) (cut layer (32 * i) 32) (pad_value p)

-- the root that layer p, padded with its padding value, gives in a tree of height h
unfoldable pub layer_root : List ℕ → ℕ → ℕ → List ℕ
layer_root layer p h = node (layer_leaf layer p) (h - p) 0
