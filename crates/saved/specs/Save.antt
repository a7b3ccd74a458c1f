-- 02, request 13: what is saved of a store, and what saving answers and leaves.
-- Assumes nothing.
use Rattle.std.specs.Prelude.{List, [], ◌∷◌, ◌++◌, cond, ◌&&◌, ℕ, zero, suc, ◌-◌, ◌^◌, length, leb}
use Rattle.octets.specs.Octets.{pasted}
use Rattle.numbers.specs.Numbers.{refused, done, unusable, no_room}
use Rattle.numbers.specs.declared.Answer.{Answer}
use Rattle.tree.specs.Geometry.{node_number}
use Rattle.cells.specs.Cells.{held_at, hash_at}
use Rattle.store.specs.Store.{usable, file_length, piece_length, facts_root, blocks_of, height_of}
use Rattle.marks.specs.Marks.{marked_at}
use Rattle.saved.specs.Form.{Place, Saved, saved_bytes}

-- position i of layer l, if it is held
abbrev pub place_held : List ℕ → ℕ → ℕ → ℕ → List Place
place_held s h l i = cond (held_at s (node_number h l i)) (record { layer = l; index = i; hash = hash_at s (node_number h l i) } ∷ []) []

-- the held positions among the first w of layer l
unfoldable pub layer_held : List ℕ → ℕ → ℕ → ℕ → List Place
layer_held s h l zero = []
layer_held s h l (suc w) = layer_held s h l w ++ place_held s h l w

-- those of the layers below l
unfoldable pub held_below : List ℕ → ℕ → ℕ → List Place
held_below s h zero = []
held_below s h (suc l) = held_below s h l ++ layer_held s h l (2 ^ (h - l))

-- block i, if it is marked
abbrev pub block_marked : List ℕ → ℕ → List ℕ
block_marked s i = cond (marked_at s i) (i ∷ []) []

-- the marked blocks among the first n
unfoldable pub marked_below : List ℕ → ℕ → List ℕ
marked_below s zero = []
marked_below s (suc n) = marked_below s n ++ block_marked s n

-- the facts, every held position, every marked block
unfoldable pub saved_of : List ℕ → Saved
saved_of s =
    record {
      n = file_length s;
      plen = piece_length s;
      root = facts_root s;
      places = held_below s (height_of s) (suc (height_of s));
      marks = marked_below s (blocks_of s);
    }

unfoldable pub save_answer : List ℕ → List ℕ → Answer
save_answer s out =
    cond (usable s)
    (cond (leb (length (saved_bytes (saved_of s))) (length out)) (done (length (saved_bytes (saved_of s)))) (refused no_room))
    (refused unusable)

unfoldable pub save_after : List ℕ → List ℕ → List ℕ
save_after s out = cond (usable s && leb (length (saved_bytes (saved_of s))) (length out)) (pasted out 0 (saved_bytes (saved_of s))) out
