-- 02, request 12: what is answered of the v1 half of a torrent s, by the value that it encodes: whether it is hybrid, its v1 info hash, and
-- of each file the v1 hashes of its pieces.
-- Assumes nothing.
use Rattle.std.specs.Prelude.{cond, List, ℕ, ◌+◌, ◌-◌, ◌*◌, ◌/◌, drop, eqb, ltb, Option, Some, None, Result, Ok, Err}
use Rattle.numbers.specs.Refusals.{number_of}
use Rattle.numbers.specs.declared.Refused.{Refused}
use Rattle.numbers.specs.Numbers.{rule_broken, no_such_part}
use Rattle.sha_1.specs.Sha1.{sha1}
use Rattle.sha_1.specs.Answer.{zero_sha1}
use Rattle.tree.specs.Geometry.{piece_count}
use Rattle.bencode.specs.Grammar.{Entries}
use Rattle.bencode.specs.Parts.{lookup, find_key}
use Rattle.bencode.specs.declared.part.Part.{Part}
use Rattle.meaning.specs.Torrent.{info_of, plen_of}
use Rattle.halves.specs.V1Keys.{key_pieces}
use Rattle.halves.specs.V1Half.{bytes_of, v1_entries, total, is_hybrid}
use Rattle.halves.specs.Stream.{file_start, zeros_behind, v1_hash_at}
use Rattle.halves.specs.Decoded.{torrent_in}
use Rattle.metainfo.specs.Metainfo.{bytes_in}
use Rattle.layers.specs.Layers.{string_in}
use Rattle.torrent.specs.Torrent.{Checked, checked_of}
use Rattle.v1.specs.Place.{file_size}
use Rattle.v1.specs.declared.read.V1Piece.{V1Piece as PieceFound}
use Rattle.v1.specs.declared.read.V1Part.{V1Part as PartFound}
use Rattle.v1.specs.declared.read.V1File.{V1File}

-- ---- what is answered: 0 and what was found, or a number beside zeros

-- whether the torrent is hybrid, 1 or 0, and its v1 info hash; zeros where it is none
pub record HybridRead : Type 0 where
  pub number : ℕ
  pub hybrid : ℕ
  pub hash : List ℕ

-- the v1 hash of a piece, and how many zeros behind the piece it covers
pub record V1Piece : Type 0 where
  pub number : ℕ
  pub hash : List ℕ
  pub zeros : ℕ

-- the part of the torrent that the v1 hashes of a file's pieces are, and how many zeros the last of them covers
pub record V1Part : Type 0 where
  pub number : ℕ
  pub start : ℕ
  pub size : ℕ
  pub zeros : ℕ

-- ---- hybrid or not: 19 to 28, 31; or 0

abbrev pub no_hybrid : ℕ → HybridRead
no_hybrid n = record { number = n; hybrid = 0; hash = zero_sha1 }

abbrev pub as_hybrid : Result (Option (List ℕ)) Refused → HybridRead
as_hybrid (Ok None) = no_hybrid 0
as_hybrid (Ok (Some h)) = record { number = 0; hybrid = 1; hash = h }
as_hybrid (Err why) = no_hybrid (number_of why)

-- the v1 info hash is that of the value of `info` as it stands
abbrev pub hybrid_in : List ℕ → Checked → HybridRead
hybrid_in s c =
    cond (eqb c.keys.number 0)
    (cond (is_hybrid (torrent_in s)) (record { number = 0; hybrid = 1; hash = sha1 (bytes_in s c.keys.info) }) (no_hybrid 0))
    (no_hybrid c.keys.number)

unfoldable pub hybrid_of : List ℕ → HybridRead
hybrid_of s = hybrid_in s (checked_of s)

-- ---- file n in the v1 half

abbrev pub file_of : Entries → ℕ → V1File
file_of info n = record { start = file_start (v1_entries info) n; length = file_size (v1_entries info) n; total = total (v1_entries info) }

-- the content of `pieces`
abbrev pub pieces_in : Entries → List ℕ
pieces_in torrent = bytes_of (lookup key_pieces (info_of torrent))

-- how many zeros behind piece i of a file its v1 hash covers
abbrev pub zeros_at : ℕ → V1File → ℕ → ℕ
zeros_at plen f i = zeros_behind plen f.total (f.start + i * plen) (f.length - i * plen)

-- ---- one piece: 19 to 28, 31; 29; 3 where the torrent is no hybrid or the file has no piece i; or 0

abbrev pub no_piece : ℕ → V1Piece
no_piece n = record { number = n; hash = zero_sha1; zeros = 0 }

abbrev pub as_piece : Result PieceFound Refused → V1Piece
as_piece (Ok p) = record { number = 0; hash = p.hash; zeros = p.zeros }
as_piece (Err why) = no_piece (number_of why)

abbrev pub piece_of : List ℕ → ℕ → V1File → ℕ → V1Piece
piece_of pieces plen f i =
    cond (ltb i (piece_count f.length plen))
    (record { number = 0; hash = v1_hash_at pieces plen f.start i; zeros = zeros_at plen f i })
    (no_piece rule_broken)

abbrev pub piece_in : List ℕ → ℕ → ℕ → Checked → V1Piece
piece_in s n i c =
    cond (eqb c.keys.number 0)
    (cond (ltb n c.files)
    (cond (is_hybrid (torrent_in s)) (piece_of (pieces_in (torrent_in s)) (plen_of (torrent_in s)) (file_of (info_of (torrent_in s)) n) i) (no_piece rule_broken))
    (no_piece no_such_part))
    (no_piece c.keys.number)

unfoldable pub v1_piece_of : List ℕ → ℕ → ℕ → V1Piece
v1_piece_of s n i = piece_in s n i (checked_of s)

-- ---- all pieces of a file: 19 to 28, 31; 29; 3 where the torrent is no hybrid; or 0

abbrev pub no_part : ℕ → V1Part
no_part n = record { number = n; start = 0; size = 0; zeros = 0 }

-- a part that was found
abbrev pub found_part : PartFound → V1Part
found_part p = record { number = 0; start = p.start; size = p.size; zeros = p.zeros }

abbrev pub as_part : Result PartFound Refused → V1Part
as_part (Ok p) = found_part p
as_part (Err why) = no_part (number_of why)

-- the string that the dictionary at `at` has for `pieces`
unfoldable pub pieces_from : List ℕ → ℕ → Option Part
pieces_from s at = string_in s (find_key key_pieces at (drop at s))

abbrev pub place_of : Option Part → ℕ
place_of None = 0
place_of (Some w) = w.start

-- the content of `pieces` begins at `base`; an empty file has no hashes
abbrev pub part_of : ℕ → ℕ → V1File → V1Part
part_of base plen f =
    cond (eqb f.length 0)
    (no_part 0)
    (record {
      number = 0;
      start = base + 20 * (f.start / plen);
      size = 20 * piece_count f.length plen;
      zeros = zeros_at plen f (piece_count f.length plen - 1);
    })

abbrev pub part_in : List ℕ → ℕ → Checked → V1Part
part_in s n c =
    cond (eqb c.keys.number 0)
    (cond (ltb n c.files)
    (cond (is_hybrid (torrent_in s)) (part_of (place_of (pieces_from s c.keys.info.start)) (plen_of (torrent_in s)) (file_of (info_of (torrent_in s)) n)) (no_part rule_broken))
    (no_part no_such_part))
    (no_part c.keys.number)

unfoldable pub v1_pieces_of : List ℕ → ℕ → V1Part
v1_pieces_of s n = part_in s n (checked_of s)
