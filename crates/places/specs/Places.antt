-- What hosts need: pieces as they are counted on the wire, file by file in tree order, by the records that `kd_torrent_list` writes.
-- Assumes nothing.
use Rattle.std.specs.Prelude.{Bool, true, cond, ◌&&◌, List, ℕ, zero, suc, ◌+◌, ◌-◌, ◌*◌, ◌/◌, ◌%◌, length, eqb, leb, ltb, Result, Ok, Err}
use Rattle.limits.specs.Limits.{longest_file, largest_torrent}
use Rattle.octets.specs.Octets.{number_at}
use Rattle.numbers.specs.Numbers.{refused, done, wrong_size, piece_length_out_of_range, no_such_part}
use Rattle.numbers.specs.declared.Answer.{Answer}
use Rattle.tree.specs.Geometry.{is_piece_length, piece_count}
use Rattle.catalogue.specs.Catalogue.{record_size}
use Rattle.numbers.specs.Refusals.{number_of}
use Rattle.numbers.specs.declared.Refused.{Refused}
use Rattle.places.specs.declared.FilePiece.{FilePiece}
use Rattle.places.specs.declared.Placed.{Placed}

-- how many records a list has, and the length that record n names
abbrev pub files_in : List ℕ → ℕ
files_in list = length list / record_size

unfoldable pub length_of : List ℕ → ℕ → ℕ
length_of list n = number_at list (record_size * n) 8

-- the lengths of c records from number n on are in range
unfoldable pub lengths_right : List ℕ → ℕ → ℕ → Bool
lengths_right list n zero = true
lengths_right list n (suc c) = leb (length_of list n) longest_file && lengths_right list (suc n) c

-- its form: whole records, no more than the largest torrent has bytes, each length in range
unfoldable pub list_right : List ℕ → Bool
list_right list = eqb (length list % record_size) 0 && (leb (files_in list) largest_torrent && lengths_right list 0 (files_in list))

-- 4, 24 or 0
unfoldable pub list_number : List ℕ → ℕ → ℕ
list_number list plen = cond (list_right list) (cond (is_piece_length plen) 0 piece_length_out_of_range) wrong_size

-- the pieces of file n; none, if it is empty
unfoldable pub pieces_of : List ℕ → ℕ → ℕ → ℕ
pieces_of list plen n = piece_count (length_of list n) plen

-- the pieces of the first n files: the number of the next file's first piece
unfoldable pub pieces_before : List ℕ → ℕ → ℕ → ℕ
pieces_before list plen zero = 0
pieces_before list plen (suc n) = pieces_before list plen n + pieces_of list plen n

-- ---- the first piece of a file

unfoldable pub first_answer : List ℕ → ℕ → ℕ → Answer
first_answer list plen file =
    cond (eqb (list_number list plen) 0)
    (cond (ltb file (files_in list)) (done (pieces_before list plen file)) (refused no_such_part))
    (refused (list_number list plen))

-- ---- the place of a piece

-- beside a refusal all are zero
abbrev pub no_place : ℕ → Placed
no_place n = record { number = n; file = 0; piece = 0 }

-- what C gets of an outcome
abbrev pub placed_of : Result FilePiece Refused → Placed
placed_of (Ok p) = record { number = 0; file = p.file; piece = p.piece }
placed_of (Err why) = no_place (number_of why)

abbrev pub place_at : ℕ → ℕ → Placed
place_at file piece = record { number = 0; file = file; piece = piece }

-- piece i, counted from the first piece of file n on, in the c files from there
unfoldable pub place_from : List ℕ → ℕ → ℕ → ℕ → ℕ → Placed
place_from list plen n zero i = no_place no_such_part
place_from list plen n (suc c) i = cond (ltb i (pieces_of list plen n)) (place_at n i) (place_from list plen (suc n) c (i - pieces_of list plen n))

unfoldable pub place_answer : List ℕ → ℕ → ℕ → Placed
place_answer list plen piece =
    cond (eqb (list_number list plen) 0) (place_from list plen 0 (files_in list) piece) (no_place (list_number list plen))
