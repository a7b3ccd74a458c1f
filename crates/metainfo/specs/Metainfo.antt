-- 01, "The torrent": the keys of a torrent s by their positions, and the numbers 19 to 24.
-- Assumes nothing.
use Rattle.std.specs.Prelude.{Bool, cond, List, ℕ, zero, suc, ◌-◌, length, drop, eqb, leb, Result, Ok, Err, Option, Some, None}
use Rattle.octets.specs.Octets.{cut}
use Rattle.limits.specs.Limits.{largest_torrent}
use Rattle.numbers.specs.Refusals.{number_of}
use Rattle.numbers.specs.declared.Refused.{Refused}
use Rattle.numbers.specs.Numbers.{torrent_too_large, key_missing, other_version, piece_length_out_of_range}
use Rattle.tree.specs.Geometry.{is_piece_length}
use Rattle.bencode.specs.Scalar.{read_integer}
use Rattle.bencode.specs.Strict.{strictness}
use Rattle.bencode.specs.Parts.{is_dictionary, find_key}
use Rattle.meaning.specs.Keys.{key_info, key_file_tree, key_piece_length, key_meta_version, key_piece_layers}
use Rattle.bencode.specs.declared.scalar.Integer.{Integer}
use Rattle.metainfo.specs.declared.Keys.{Keys as KeysRead}
use Rattle.bencode.specs.declared.part.Part.{Part}

-- ---- a part of the torrent

abbrev pub part_of : ℕ → ℕ → Part
part_of a b = record { start = a; end = b }

-- its bytes
abbrev pub bytes_in : List ℕ → Part → List ℕ
bytes_in s p = cut s p.start (p.end - p.start)

-- ---- what is found, if it is of the type

abbrev pub dictionary_in : List ℕ → Option Part → Option Part
dictionary_in s None = None
dictionary_in s (Some w) = cond (is_dictionary (drop w.start s)) (Some w) None

abbrev pub integer_in : List ℕ → Option Part → Option Integer
integer_in s None = None
integer_in s (Some w) = read_integer w.start (drop w.start s)

abbrev pub find_dictionary : List ℕ → ℕ → List ℕ → Option Part
find_dictionary s at key = dictionary_in s (find_key key at (drop at s))

abbrev pub find_integer : List ℕ → ℕ → List ℕ → Option Integer
find_integer s at key = integer_in s (find_key key at (drop at s))

-- ---- the numbers, the lowest

-- what is answered: 0, the piece length and the parts that `info`, `file tree` and `piece layers` are; or a number beside zeros
pub record Keys : Type 0 where
  pub number : ℕ
  pub plen : ℕ
  pub info : Part
  pub tree : Part
  pub layers : Part

-- beside a refusal all are zero
abbrev pub no_part : Part
no_part = part_of 0 0

abbrev pub no_keys : ℕ → Keys
no_keys n = record { number = n; plen = 0; info = no_part; tree = no_part; layers = no_part }

-- the keys that were read
abbrev pub found_keys : KeysRead → Keys
found_keys k = record { number = 0; plen = k.plen; info = k.info; tree = k.tree; layers = k.layers }

-- the answer that an outcome is
abbrev pub as_keys : Result KeysRead Refused → Keys
as_keys (Ok k) = found_keys k
as_keys (Err why) = no_keys (number_of why)

-- where none is missing; a version or piece length below zero is out of range
unfoldable pub right_keys : Keys → Bool → Bool → ℕ → Keys
right_keys k below minus version =
    cond minus (no_keys other_version)
    (cond (eqb version 2)
    (cond below (no_keys piece_length_out_of_range)
    (cond (is_piece_length k.plen) k (no_keys piece_length_out_of_range)))
    (no_keys other_version))

abbrev pub with_version : Part → Part → Part → Bool → ℕ → Option Integer → Keys
with_version info tree layers below plen None = no_keys key_missing
with_version info tree layers below plen (Some w) =
    right_keys (record { number = 0; plen = plen; info = info; tree = tree; layers = layers }) below w.minus w.size

abbrev pub with_piece_length : List ℕ → Part → Part → Part → Option Integer → Keys
with_piece_length s info tree layers None = no_keys key_missing
with_piece_length s info tree layers (Some w) =
    with_version info tree layers w.minus w.size (find_integer s info.start key_meta_version)

-- `piece length` and `meta version` of `info`
unfoldable pub info_keys : List ℕ → Part → Part → Part → Keys
info_keys s info tree layers = with_piece_length s info tree layers (find_integer s info.start key_piece_length)

abbrev pub with_layers : List ℕ → Part → Part → Option Part → Keys
with_layers s info tree None = no_keys key_missing
with_layers s info tree (Some w) = info_keys s info tree (part_of w.start w.end)

abbrev pub with_tree : List ℕ → Part → Option Part → Keys
with_tree s info None = no_keys key_missing
with_tree s info (Some w) = with_layers s info (part_of w.start w.end) (find_dictionary s 0 key_piece_layers)

-- `file tree` of `info`, and `piece layers`
unfoldable pub dictionary_keys : List ℕ → Part → Keys
dictionary_keys s info = with_tree s info (find_dictionary s info.start key_file_tree)

abbrev pub with_info : List ℕ → Option Part → Keys
with_info s None = no_keys key_missing
with_info s (Some w) = dictionary_keys s (part_of w.start w.end)

unfoldable pub keys_of : List ℕ → Keys
keys_of s = with_info s (find_dictionary s 0 key_info)

-- what strict bencoding says first
abbrev pub if_strict : List ℕ → ℕ → Keys
if_strict s zero = keys_of s
if_strict s (suc n) = no_keys (suc n)

unfoldable pub metainfo_of : List ℕ → Keys
metainfo_of s = cond (leb (length s) largest_torrent) (if_strict s (strictness s)) (no_keys torrent_too_large)
