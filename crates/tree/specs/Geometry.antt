-- 01, "The tree", and BEP 52: what a file's length and its piece length fix. Numbers only.
-- Positions are a layer l, from 0 at the leaves, and an index i in it.
--
--   layer 3                     0                      the root: height 3 for five to eight blocks
--   layer 2           0                   1
--   layer 1       0       1           2       3        3 is padding: all leaves below it are
--   layer 0     0   1   2   3       4   5   6   7      a file of five blocks: 5, 6 and 7 are padding, their value is zeros
--
-- With pieces of two blocks layer 1 is the piece layer, and its positions 0, 1 and 2 are the file's pieces.
-- Assumes nothing.
use Rattle.std.specs.Prelude.{Bool, cond, ◌&&◌, ℕ, zero, suc, ◌+◌, ◌-◌, ◌*◌, ◌/◌, ◌^◌, ◌≤◌, min, leb, ltb, eqb}

-- 16 KiB
abbrev pub block_length : ℕ
block_length = 16384

-- a / b, rounded up
unfoldable pub ceil_div : ℕ → ℕ → ℕ
ceil_div a b = (a + (b - 1)) / b

-- B, the blocks of a file of n bytes
unfoldable pub block_count : ℕ → ℕ
block_count n = ceil_div n block_length

-- the least number from k on, of f tried, with 2 to it at least b
unfoldable pub height_from : ℕ → ℕ → ℕ → ℕ
height_from zero k b = k
height_from (suc f) k b = let higher : ℕ = height_from f (suc k) b in cond (leb b (2 ^ k)) k higher

-- h, the least with 2^h at least B
unfoldable pub height : ℕ → ℕ
height b = height_from b 0 b

-- the logarithm of a power of two
abbrev pub log2 : ℕ → ℕ
log2 n = height n

-- a position covers the blocks from i·2^l up to (i + 1)·2^l; it is padding if the file has none of them
unfoldable pub Padding : ℕ → ℕ → ℕ → Type 0
Padding b l i = b ≤ i * 2 ^ l

-- how many positions of layer l aren't padding
unfoldable pub covering : ℕ → ℕ → ℕ
covering b l = ceil_div b (2 ^ l)

-- the number of a position in a tree of height h: the root is 1, the children of n are 2n and 2n + 1
unfoldable pub node_number : ℕ → ℕ → ℕ → ℕ
node_number h l i = 2 ^ (h - l) + i

-- p, where the piece length is 16384·2^p: the piece layer's number
unfoldable pub piece_layer : ℕ → ℕ
piece_layer plen = height (plen / block_length)

-- a power of two from 16 KiB to 16 MiB
unfoldable pub is_piece_length : ℕ → Bool
is_piece_length plen = eqb (block_length * 2 ^ piece_layer plen) plen && leb plen 16777216

-- only a file longer than the piece length has a piece layer
unfoldable pub has_layer : ℕ → ℕ → Bool
has_layer n plen = ltb plen n

unfoldable pub piece_count : ℕ → ℕ → ℕ
piece_count n plen = ceil_div n plen

-- the bytes of block i, and of piece i; none past the file
unfoldable pub block_size : ℕ → ℕ → ℕ
block_size n i = min block_length (n - block_length * i)

unfoldable pub piece_size : ℕ → ℕ → ℕ → ℕ
piece_size n plen i = min plen (n - plen * i)
