-- 01, "The torrent": what the calls say of a torrent s, without the code's positions: by the count of its bytes, by bencoding's grammar,
-- and by the value es that it encodes. `NumberMeans` and `ReadMeans` have the theorems: so it is of what `kd_torrent_read`,
-- `kd_torrent_file` and `kd_torrent_path` answer, for every s.
-- Assumes nothing.
use Rattle.std.specs.Prelude.{◌≡◌, List, ℕ, ◌≤◌, ◌<◌, length}
use Rattle.octets.specs.Octets.{cut, zero_hash}
use Rattle.limits.specs.Limits.{largest_torrent, max_levels}
use Rattle.numbers.specs.Numbers.{torrent_too_large, not_strict, nested_too_deeply}
use Rattle.sha256.specs.Sha256.{sha256}
use Rattle.bencode.specs.Grammar.{string, dictionary, Entries, encode, Valid}
use Rattle.bencode.specs.Parts.{present, lookup}
use Rattle.bencode.specs.Strict.{Encoded, TooDeepFirst}
use Rattle.meaning.specs.Keys.{key_info}
use Rattle.meaning.specs.Torrent.{info_of, plen_of, layers_of, File, files_of}
use Rattle.halves.specs.V1Half.{torrent_number}
use Rattle.torrent.specs.Torrent.{PartRead, FileRead, Torrent}

-- what the number n says of the bytes s: they are more than 1 MiB; or they are no strict bencoding, and the depth is not wrong first; or
-- it is; or they encode a valid dictionary, and n is what 01 and 02 say of that value (`meaning`'s Amiss, `halves`' Amiss31)
pub data Says (s : List ℕ) (n : ℕ) : Type 0 where
  too_large : largest_torrent < length s → n ≡ torrent_too_large → Says s n
  no_encoding : length s ≤ largest_torrent → (Encoded max_levels s → ⊥) → (TooDeepFirst s → ⊥) → n ≡ not_strict → Says s n
  too_deep : length s ≤ largest_torrent → TooDeepFirst s → n ≡ nested_too_deeply → Says s n
  encodes : length s ≤ largest_torrent → (es : Entries) → Valid (dictionary es) max_levels → s ≡ encode (dictionary es) → n ≡ torrent_number es → Says s n

-- ---- of a torrent that gets 0

-- the torrent: `info` stands in s, and its info hash is SHA-256 of these bytes
pub record TorrentIs (s : List ℕ) (es : Entries) (r : Torrent) : Type 0 where
  pub number : r.number ≡ 0
  pub info : lookup key_info es ≡ present (dictionary (info_of es))
  pub info_stands : (a n : ℕ) × (cut s a n ≡ encode (dictionary (info_of es))) × (r.hash ≡ sha256 (cut s a n))
  pub piece_length_lem : r.plen ≡ plen_of es
  pub file_count : r.files ≡ length (files_of es)

-- the file v: its length, its root, how many elements its path has, and where its layer stands in s. An empty file has the root of
-- zeros; a file not longer than the piece length has an empty layer
pub record FileIs (s : List ℕ) (es : Entries) (v : File) (r : FileRead) : Type 0 where
  pub number : r.number ≡ 0
  pub size : r.length ≡ v.size
  pub root : r.root ≡ v.root
  pub empty : v.size ≡ 0 → r.root ≡ zero_hash
  pub elements : r.elements ≡ length v.path
  pub layer : plen_of es < v.size → (b : List ℕ) × (lookup v.root (layers_of es) ≡ present (string b)) × (r.size ≡ length b) × (cut s r.start r.size ≡ b)
  pub no_layer : v.size ≤ plen_of es → (r.start ≡ 0) × (r.size ≡ 0)

-- the path element x: where it stands in s
pub record PartIs (s x : List ℕ) (r : PartRead) : Type 0 where
  pub number : r.number ≡ 0
  pub size : r.size ≡ length x
  pub bytes : cut s r.start r.size ≡ x
