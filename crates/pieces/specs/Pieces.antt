-- 01, "Loading a piece layer" and "Block and piece": what each gets, in the order 9, 3, 4, 6, 7, 8, and what it leaves; 02, request 7: the
-- marks that a judgement sets. What a block or a piece gets is a matter of the cells alone.
-- Assumes nothing.
use Rattle.std.specs.Prelude.{List, true, cond, ℕ, ◌-◌, ◌*◌, length, eqb, ltb}
use Rattle.octets.specs.Octets.{same}
use Rattle.numbers.specs.Numbers.{rule_broken, wrong_size, unusable, judged}
use Rattle.numbers.specs.declared.Answer.{Answer}
use Rattle.sha256.specs.Sha256.{sha256}
use Rattle.tree.specs.Geometry.{node_number, piece_layer, has_layer, piece_count, block_size, piece_size}
use Rattle.tree.specs.Values.{node, leaf_of, layer_leaf}
use Rattle.cells.specs.Cells.{held_at, hash_at}
use Rattle.cells.specs.Entries.{Entry, agrees, put_all, newly}
use Rattle.store.specs.Store.{usable, file_length, piece_length, blocks_of, height_of, positions}
use Rattle.marks.specs.Marks.{marked, marks_put, first_block, blocks_in}
use Rattle.settling.specs.Subtree.{subtree}

-- position n, against a subtree of height k over given leaves
unfoldable pub judged_at : List ℕ → (ℕ → List ℕ) → ℕ → ℕ → ℕ
judged_at s leaf k n = judged (held_at s n) (same (hash_at s n) (node leaf k 0)) (agrees s (subtree leaf k n 0))

-- ---- loading a piece layer

-- the piece layer's number p, in a store
unfoldable pub layer_of_pieces : List ℕ → ℕ
layer_of_pieces s = piece_layer (piece_length s)

-- layer p and all above it: the hashes, padded with layer p's padding value, up to the root
unfoldable pub layer_settled : List ℕ → List ℕ → List Entry
layer_settled s layer = subtree (layer_leaf layer (layer_of_pieces s)) (height_of s - layer_of_pieces s) 1 0

unfoldable pub layer_number : List ℕ → List ℕ → ℕ
layer_number s layer =
    cond (usable s)
    (cond (has_layer (file_length s) (piece_length s))
    (cond (eqb (length layer) (32 * piece_count (file_length s) (piece_length s)))
    (judged_at s (layer_leaf layer (layer_of_pieces s)) (height_of s - layer_of_pieces s) 1)
    wrong_size)
    rule_broken)
    unusable

unfoldable pub layer_after : List ℕ → List ℕ → List ℕ
layer_after s layer = cond (eqb (layer_number s layer) 0) (put_all s (layer_settled s layer)) s

-- the count is the positions held after and not before
unfoldable pub layer_answer : List ℕ → List ℕ → Answer
layer_answer s layer = record { number = layer_number s layer; count = newly (positions (height_of s)) s (layer_after s layer) }

-- ---- judging a block, against leaf i

unfoldable pub block_number : List ℕ → ℕ → List ℕ → ℕ
block_number s i block =
    cond (usable s)
    (cond (ltb i (blocks_of s))
    (cond (eqb (length block) (block_size (file_length s) i))
    (judged (held_at s (node_number (height_of s) 0 i)) (same (hash_at s (node_number (height_of s) 0 i)) (sha256 block)) true)
    wrong_size)
    rule_broken)
    unusable

unfoldable pub block_answer : List ℕ → ℕ → List ℕ → Answer
block_answer s i block = record { number = block_number s i block; count = 0 }

-- on 0 its mark is set; no other number changes a byte
unfoldable pub block_after : List ℕ → ℕ → List ℕ → List ℕ
block_after s i block = cond (eqb (block_number s i block) 0) (marks_put s i 1 marked) s

-- ---- judging a piece, against its node in layer p, or the root if the file isn't longer than the piece length

unfoldable pub piece_height : List ℕ → ℕ
piece_height s = cond (has_layer (file_length s) (piece_length s)) (layer_of_pieces s) (height_of s)

unfoldable pub piece_number : List ℕ → ℕ → List ℕ → ℕ
piece_number s i piece =
    cond (usable s)
    (cond (ltb i (piece_count (file_length s) (piece_length s)))
    (cond (eqb (length piece) (piece_size (file_length s) (piece_length s) i))
    (judged_at s (leaf_of piece) (piece_height s) (node_number (height_of s) (piece_height s) i))
    wrong_size)
    rule_broken)
    unusable

unfoldable pub piece_answer : List ℕ → ℕ → List ℕ → Answer
piece_answer s i piece = record { number = piece_number s i piece; count = 0 }

-- on 0 the mark of each block that it covers is set
unfoldable pub piece_after : List ℕ → ℕ → List ℕ → List ℕ
piece_after s i piece = cond (eqb (piece_number s i piece) 0) (marks_put s (first_block s i) (blocks_in s i) marked) s
