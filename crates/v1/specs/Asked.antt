-- What the functions of the v1 half are asked for.
-- Assumes nothing.
use Rattle.std.specs.Prelude.{◌≡◌, true, List, ℕ, ◌+◌, ◌*◌, ◌≤◌, ◌<◌, length, Result, Ok, Err}
use Rattle.limits.specs.Limits.{largest_torrent}
use Rattle.octets.specs.Octets.{cut}
use Rattle.numbers.specs.Refusals.{number_of}
use Rattle.numbers.specs.declared.Refused.{Refused}
use Rattle.tree.specs.Geometry.{piece_count}
use Rattle.bencode.specs.Grammar.{Entries}
use Rattle.halves.specs.V1Half.{half_fits, v1_entries, files_among, on_boundary, total}
use Rattle.hybrid.specs.Tally.{most_bytes}
use Rattle.v1.specs.V1.{V1Piece, V1Part, no_piece, piece_of, v1_piece_of, no_part, part_of, v1_pieces_of}
use Rattle.v1.specs.declared.read.Sought.{Sought}

-- a v1 half that fits, with a file n
pub record Fits (plen : ℕ) (info : Entries) (n : ℕ) : Type 0 where
  pub fits : half_fits info ≡ true
  pub boundary : on_boundary plen 0 (v1_entries info) ≡ true
  pub few : total (v1_entries info) ≤ most_bytes
  pub there : n < length (files_among (v1_entries info))

-- a file within all entries, whose hashes stand from `base` on in so many bytes
pub record Stands (size base plen start len all : ℕ) : Type 0 where
  pub some : 0 < plen
  pub within : start + len ≤ all
  pub few : all ≤ most_bytes
  pub room : base + 20 * piece_count all plen ≤ size
  pub small : size ≤ largest_torrent

-- what is known of a file that was sought: of a refusal, that it is answered; of a file, where it stands, and that its answers are those of the torrent
abbrev pub Answers : List ℕ → ℕ → Result Sought Refused → Type 0
Answers s n (Err why) = ((i : ℕ) → no_piece (number_of why) ≡ v1_piece_of s n i) × (no_part (number_of why) ≡ v1_pieces_of s n)
Answers s n (Ok h) =
    Stands (length s) h.base h.plen h.file.start h.file.length h.file.total
    × ((i : ℕ) (r : V1Piece) → ((pieces : List ℕ) → cut s h.base (length pieces) ≡ pieces → 20 * piece_count h.file.total h.plen ≤ length pieces → r ≡ piece_of pieces h.plen h.file i) → r ≡ v1_piece_of s n i)
    × ((r : V1Part) → r ≡ part_of h.base h.plen h.file → r ≡ v1_pieces_of s n)
