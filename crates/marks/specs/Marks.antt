-- 02, request 7, and docs/LAYOUT.md: a mark for each block, which says that its data was judged right. The marks stand behind the cells,
-- block i's at the i-th byte. What asking for a mark, clearing one and the bitfield of the pieces answer and leave.
-- Assumes nothing.
use Rattle.std.specs.Prelude.{List, [], ◌∷◌, ◌++◌, Bool, true, cond, ◌&&◌, ℕ, zero, suc, ◌+◌, ◌-◌, ◌*◌, ◌^◌, min, length, get_or, replicate, eqb, leb, ltb}
use Rattle.octets.specs.Octets.{pasted}
use Rattle.numbers.specs.Numbers.{refused, done, rule_broken, unusable, no_room}
use Rattle.numbers.specs.declared.Answer.{Answer}
use Rattle.tree.specs.Geometry.{ceil_div, piece_layer, piece_count}
use Rattle.cells.specs.Entries.{one_if}
use Rattle.store.specs.Store.{usable, file_length, piece_length, blocks_of, height_of, positions}

-- the first byte behind the cells
unfoldable pub marks_start : List ℕ → ℕ
marks_start s = 31 + 33 * positions (height_of s)

-- marked is one value; every other is read as cleared
unfoldable pub marked_at : List ℕ → ℕ → Bool
marked_at s i = eqb (get_or s (marks_start s + i) 0) 1

-- the store with x as the mark of n blocks from i on
unfoldable pub marks_put : List ℕ → ℕ → ℕ → ℕ → List ℕ
marks_put s i n x = pasted s (marks_start s + i) (replicate n x)

-- the value of a mark that is set, and of one that is cleared
abbrev pub marked : ℕ
marked = 1

abbrev pub cleared : ℕ
cleared = 0

-- ---- clearing a mark, asking for one

-- 9 for a store that isn't usable, 3 for a block that the file has not
unfoldable pub block_there : List ℕ → ℕ → ℕ
block_there s i = cond (usable s) (cond (ltb i (blocks_of s)) 0 rule_broken) unusable

unfoldable pub clear_answer : List ℕ → ℕ → Answer
clear_answer s i = record { number = block_there s i; count = 0 }

unfoldable pub clear_after : List ℕ → ℕ → List ℕ
clear_after s i = cond (eqb (block_there s i) 0) (marks_put s i 1 cleared) s

-- the count is 1 for a marked block, 0 for another
unfoldable pub marked_answer : List ℕ → ℕ → Answer
marked_answer s i = record { number = block_there s i; count = cond (eqb (block_there s i) 0) (one_if (marked_at s i)) 0 }

-- ---- the blocks of a piece

-- how many blocks a piece has, but for the last
unfoldable pub each_piece : List ℕ → ℕ
each_piece s = 2 ^ piece_layer (piece_length s)

-- the first block of piece i, and how many it covers: none past the file
unfoldable pub first_block : List ℕ → ℕ → ℕ
first_block s i = each_piece s * i

unfoldable pub blocks_in : List ℕ → ℕ → ℕ
blocks_in s i = min (each_piece s) (blocks_of s - each_piece s * i)

-- n blocks from i on are all marked
unfoldable pub all_marked : List ℕ → ℕ → ℕ → Bool
all_marked s i zero = true
all_marked s i (suc n) = all_marked s i n && marked_at s (i + n)

-- piece i is one of the file's, and all its blocks are marked
unfoldable pub piece_marked : List ℕ → ℕ → Bool
piece_marked s i = ltb i (piece_count (file_length s) (piece_length s)) && all_marked s (first_block s i) (blocks_in s i)

-- ---- the bitfield: a bit for each piece, eight to a byte, the first in the highest; spare bits are zero

-- the number that n bits write, from piece i on
unfoldable pub field_bits : List ℕ → ℕ → ℕ → ℕ
field_bits s i zero = 0
field_bits s i (suc n) = field_bits s i n * 2 + one_if (piece_marked s (i + n))

-- its first n bytes
unfoldable pub field_bytes : List ℕ → ℕ → List ℕ
field_bytes s zero = []
field_bytes s (suc n) = field_bytes s n ++ (field_bits s (8 * n) 8 ∷ [])

unfoldable pub field_size : List ℕ → ℕ
field_size s = ceil_div (piece_count (file_length s) (piece_length s)) 8

unfoldable pub field_answer : List ℕ → List ℕ → Answer
field_answer s out = cond (usable s) (cond (leb (field_size s) (length out)) (done (field_size s)) (refused no_room)) (refused unusable)

-- it stands at the front of the output; the bytes behind it stay
unfoldable pub field_after : List ℕ → List ℕ → List ℕ
field_after s out = cond (usable s && leb (field_size s) (length out)) (pasted out 0 (field_bytes s (field_size s))) out
