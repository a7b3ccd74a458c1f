-- What the state of a history of the bytes x is: the meaning of each field; and what it has written to the lent layer. The laws show that any
-- bursts lead to it.
-- Assumes nothing.
use Rattle.std.specs.Prelude.{◌≡◌, cond, List, [], ◌++◌, ℕ, zero, suc, ◌-◌, ◌*◌, ◌/◌, ◌^◌, length, take, drop, eqb}
use Rattle.octets.specs.Octets.{zero_hash}
use Rattle.running.specs.Bursts.{state_of}
use Rattle.tree.specs.Geometry.{block_length, piece_layer}
use Rattle.tree.specs.Values.{node, leaf_of, layer_of}
use Rattle.history.specs.Growing.{node_count}
use Rattle.history.specs.Answers.{passed}
use Rattle.history.specs.declared.History.{History}

-- the last of c finished nodes of layer k over these leaves; zero if there is none
unfoldable pub last_of : (ℕ → List ℕ) → ℕ → ℕ → List ℕ
last_of leaf k c = cond (eqb c 0) zero_hash (node leaf k (c - 1))

-- the last finished nodes of the first n layers, after b blocks
unfoldable pub nodes_of : (ℕ → List ℕ) → ℕ → ℕ → List ℕ
nodes_of leaf b zero = []
nodes_of leaf b (suc n) = nodes_of leaf b n ++ last_of leaf n (b / 2 ^ n)

-- the bytes of x past its whole blocks
unfoldable pub open_block : List ℕ → List ℕ
open_block x = drop (block_length * (length x / block_length)) x

unfoldable pub history_of : ℕ → List ℕ → History
history_of plen x =
    record { piece_length = plen; length = length x; block = state_of (open_block x); nodes = nodes_of (leaf_of x) (length x / block_length) node_count }

-- ---- the lent layer

-- the hashes a to a + n - 1 of layer p
unfoldable pub hashes_of : List ℕ → ℕ → ℕ → ℕ → List ℕ
hashes_of x p a zero = []
hashes_of x p a (suc n) = node (leaf_of x) p a ++ hashes_of x p (suc a) n

-- the first hashes of the lent layer are those of the pieces that x has run past
unfoldable pub Written : ℕ → List ℕ → List ℕ → Type 0
Written plen x layer = take (32 * passed (length x) plen) layer ≡ layer_of x (piece_layer plen) (passed (length x) plen)
