-- What hosts need: the block hashes of a piece that is right, as a hashes message (id 22) with base layer 0 and proof layers 0: the numbers of
-- `kd_judge_piece` in their order, then 11.
-- Assumes nothing.
use Rattle.std.specs.Prelude.{List, [], ◌∷◌, ◌++◌, cond, ℕ, zero, suc, ◌*◌, ◌^◌, length, eqb, leb}
use Rattle.octets.specs.Octets.{be, pasted}
use Rattle.numbers.specs.Numbers.{refused, done, no_room}
use Rattle.numbers.specs.declared.Answer.{Answer}
use Rattle.tree.specs.Values.{leaf_of}
use Rattle.store.specs.Store.{facts_root}
use Rattle.header.specs.declared.Header.{Header}
use Rattle.header.specs.Header.{hashes_id}
use Rattle.pieces.specs.Pieces.{piece_height, piece_number}

-- the first c leaves, one after the other
unfoldable pub leaf_run : (ℕ → List ℕ) → ℕ → List ℕ
leaf_run leaf zero = []
leaf_run leaf (suc c) = leaf_run leaf c ++ leaf c

-- a message's first 49 bytes: id, pieces root, then base layer, index, length, proof layers, each 32-bit big-endian
unfoldable pub head_of : List ℕ → Header → List ℕ
head_of root x = hashes_id ∷ (root ++ (be 4 x.base ++ (be 4 x.index ++ (be 4 x.len ++ be 4 x.proof))))

-- a run of leaves without uncles
abbrev pub run_over : ℕ → ℕ → Header
run_over index len = record { base = 0; index = index; len = len; proof = 0 }

-- all 2^k leaves under the piece's node, which is number i of its layer k; those past the piece's blocks are padding
unfoldable pub leaf_message : List ℕ → ℕ → List ℕ → List ℕ
leaf_message s i piece =
    head_of (facts_root s) (run_over (i * 2 ^ piece_height s) (2 ^ piece_height s)) ++ leaf_run (leaf_of piece) (2 ^ piece_height s)

-- what is written: nothing where the node is a leaf itself, since there is nothing to say then
unfoldable pub leaves_told : List ℕ → ℕ → List ℕ → List ℕ
leaves_told s i piece = cond (eqb (piece_height s) 0) [] (leaf_message s i piece)

unfoldable pub leaves_answer : List ℕ → ℕ → List ℕ → List ℕ → Answer
leaves_answer s i piece out =
    cond (eqb (piece_number s i piece) 0)
    (cond (leb (length (leaves_told s i piece)) (length out)) (done (length (leaves_told s i piece))) (refused no_room))
    (refused (piece_number s i piece))

-- bytes of the output beyond the message stay, and beside a refusal all
unfoldable pub leaves_after : List ℕ → ℕ → List ℕ → List ℕ → List ℕ
leaves_after s i piece out =
    cond (eqb (piece_number s i piece) 0)
    (cond (leb (length (leaves_told s i piece)) (length out)) (pasted out 0 (leaves_told s i piece)) out)
    out
