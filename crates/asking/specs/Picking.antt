-- 02, request 11: the piece to fetch: the smallest count above zero among pieces not on disk, the lowest number on a tie.
-- Assumes nothing.
use Rattle.std.specs.Prelude.{List, Option, Some, None, Result, Ok, Err, Bool, cond, not, ◌&&◌, ◌||◌, ℕ, zero, suc, length, get_or, eqb, ltb}
use Rattle.numbers.specs.Numbers.{wrong_size, unusable}
use Rattle.numbers.specs.Refusals.{number_of}
use Rattle.numbers.specs.declared.Refused.{Refused}
use Rattle.tree.specs.Geometry.{piece_count}
use Rattle.store.specs.Store.{usable, file_length, piece_length}
use Rattle.marks.specs.Marks.{piece_marked}
use Rattle.asking.specs.declared.pick.Choice.{Choice}

-- how many neighbours have piece i
abbrev pub count_of : List ℕ → ℕ → ℕ
count_of counts i = get_or counts i 0

-- piece i is one to fetch: some neighbour has it, and not all its blocks are marked
unfoldable pub fetchable : List ℕ → List ℕ → ℕ → Bool
fetchable s counts i = ltb 0 (count_of counts i) && not (piece_marked s i)

-- a piece with that count goes before the choice made so far: there was none, or the count is smaller
unfoldable pub before : List ℕ → ℕ → Choice → Bool
before counts count best = eqb best.found 0 || ltb count (count_of counts best.piece)

-- the answer with a number and no piece: all else is zero
abbrev pub no_piece : ℕ → Choice
no_piece n = record { number = n; found = 0; piece = 0 }

abbrev pub this_piece : ℕ → Choice
this_piece i = record { number = 0; found = 1; piece = i }

-- the choice that a piece or none is, and what C gets of it or of a refusal
abbrev pub picked : Option ℕ → Choice
picked (Some i) = this_piece i
picked None = no_piece 0

abbrev pub choice_of : Result (Option ℕ) Refused → Choice
choice_of (Ok best) = picked best
choice_of (Err why) = no_piece (number_of why)

-- the choice after piece i, where `best` was the one before it
unfoldable pub chosen : List ℕ → List ℕ → ℕ → Choice → Choice
chosen s counts i best = cond (fetchable s counts i && before counts (count_of counts i) best) (this_piece i) best

-- the choice among the first n pieces
unfoldable pub best_of : List ℕ → List ℕ → ℕ → Choice
best_of s counts zero = no_piece 0
best_of s counts (suc n) = chosen s counts n (best_of s counts n)

-- 9, then 4 for a list of another length than the file's pieces
unfoldable pub pick_answer : List ℕ → List ℕ → Choice
pick_answer s counts =
    cond (usable s)
    (cond (eqb (length counts) (piece_count (file_length s) (piece_length s))) (best_of s counts (length counts)) (no_piece wrong_size))
    (no_piece unusable)
