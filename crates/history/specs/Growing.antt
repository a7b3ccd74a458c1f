-- 02, request 1: the running tree. For any state, what each byte more makes of it; the node over the last byte.
-- N is the count of all bytes. `block` is the running hash of the block under way, `nodes` has for each layer its last finished node.
-- Assumes nothing.
use Rattle.std.specs.Prelude.{List, [], ◌∷◌, cond, ◌&&◌, ℕ, zero, suc, ◌+◌, ◌-◌, ◌*◌, ◌/◌, ◌%◌, ◌^◌, eqb, ltb}
use Rattle.octets.specs.Octets.{cut, pasted, zero_hash}
use Rattle.limits.specs.Limits.{tallest_tree}
use Rattle.sha256.specs.Sha256.{pair_hash}
use Rattle.running.specs.Bursts.{state_of, absorbed, hash_of}
use Rattle.tree.specs.Geometry.{block_length, block_count, height, piece_layer}
use Rattle.tree.specs.Values.{pad_value}
use Rattle.history.specs.declared.History.{History}

-- one node for each layer of the tallest tree, the root's included
abbrev pub node_count : ℕ
node_count = tallest_tree + 1

-- the last finished node of layer k
unfoldable pub node_at : List ℕ → ℕ → List ℕ
node_at nodes k = cut nodes (32 * k) 32

-- node i of layer k is finished, with this hash. A right child finishes its parent too, and so on upwards, for f layers.
unfoldable pub finishing : ℕ → List ℕ → ℕ → ℕ → List ℕ → List ℕ
finishing zero nodes k i hash = nodes
finishing (suc f) nodes k i hash =
    cond (eqb (i % 2) 1)
    (finishing f (pasted nodes (32 * k) hash) (suc k) (i / 2) (pair_hash (node_at nodes k) hash))
    (pasted nodes (32 * k) hash)

-- the state after a byte y: it goes into the block under way, and the last one of a block finishes a leaf
unfoldable pub grown : History → ℕ → History
grown s y =
    cond (eqb ((s.length + 1) % block_length) 0)
    (record {
      piece_length = s.piece_length;
      length = s.length + 1;
      block = state_of [];
      nodes = finishing node_count s.nodes 0 (s.length / block_length) (hash_of (absorbed s.block (y ∷ [])));
    })
    (record { piece_length = s.piece_length; length = s.length + 1; block = absorbed s.block (y ∷ []); nodes = s.nodes })

-- the state after all bytes of a burst
unfoldable pub grown_by : History → List ℕ → History
grown_by s [] = s
grown_by s (y ∷ ys) = grown_by (grown s y) ys

-- the lent layer as a byte comes: where it runs past a piece, the piece's hash is written
unfoldable pub noted : History → List ℕ → List ℕ
noted s layer =
    cond (ltb 0 s.length && eqb (s.length % s.piece_length) 0)
    (pasted layer (32 * (s.length / s.piece_length - 1)) (node_at s.nodes (piece_layer s.piece_length)))
    layer

-- the lent layer after all bytes of a burst
unfoldable pub noted_by : History → List ℕ → List ℕ → List ℕ
noted_by s layer [] = layer
noted_by s layer (y ∷ ys) = noted_by (grown s y) (noted s layer) ys

-- the block under way as a leaf; zero if there is none
unfoldable pub open_leaf : History → List ℕ
open_leaf s = cond (eqb (s.length % block_length) 0) zero_hash (hash_of s.block)

-- the node k layers above leaf i, which is under way: to its left what is finished, to its right padding
unfoldable pub open_above : List ℕ → List ℕ → ℕ → ℕ → List ℕ
open_above nodes leaf i zero = leaf
open_above nodes leaf i (suc k) =
    cond (eqb (i / 2 ^ k % 2) 1) (pair_hash (node_at nodes k) (open_above nodes leaf i k)) (pair_hash (open_above nodes leaf i k) (pad_value k))

-- the node of layer k that the next byte belongs to
unfoldable pub open_node : History → ℕ → List ℕ
open_node s k = open_above s.nodes (open_leaf s) (s.length / block_length) k

-- the node of layer k over the last byte
unfoldable pub last_node : History → ℕ → List ℕ
last_node s k = cond (eqb (s.length % (block_length * 2 ^ k)) 0) (node_at s.nodes k) (open_node s k)

-- the pieces root, from the state alone; zero for an empty history
unfoldable pub root_of : History → List ℕ
root_of s = cond (eqb s.length 0) zero_hash (last_node s (height (block_count s.length)))
