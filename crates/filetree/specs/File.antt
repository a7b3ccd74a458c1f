-- 01, "The torrent", 25: what the value of an empty key says of a file, by positions of the bytes s.
-- Assumes nothing.
use Rattle.std.specs.Prelude.{cond, List, ℕ, ◌-◌, drop, eqb, leb, Option, Some, None}
use Rattle.limits.specs.Limits.{longest_file}
use Rattle.meaning.specs.Keys.{key_length, key_pieces_root}
use Rattle.bencode.specs.Scalar.{read_integer, read_string}
use Rattle.bencode.specs.Parts.{find_key}
use Rattle.bencode.specs.declared.part.Part.{Part}
use Rattle.bencode.specs.declared.scalar.Integer.{Integer}
use Rattle.filetree.specs.declared.file.File.{File}

-- a file of n bytes with its root at r
abbrev pub right_file : ℕ → ℕ → Option File
right_file n r = Some (record { length = n; root = r })

-- an integer from 0 to the longest file's length
abbrev pub length_of : Option Integer → Option ℕ
length_of None = None
length_of (Some w) = cond w.minus None (cond (leb w.size longest_file) (Some w.size) None)

-- a string of 32 bytes
abbrev pub root_of : Option Part → Option ℕ
root_of None = None
root_of (Some w) = cond (eqb (w.end - w.start) 32) (Some w.start) None

abbrev pub length_in : List ℕ → Option Part → Option ℕ
length_in s None = None
length_in s (Some w) = length_of (read_integer w.start (drop w.start s))

abbrev pub root_in : List ℕ → Option Part → Option ℕ
root_in s None = None
root_in s (Some w) = root_of (read_string w.start (drop w.start s))

-- the length, and the root, in the dictionary at `at`
unfoldable pub file_length : List ℕ → ℕ → Option ℕ
file_length s at = length_in s (find_key key_length at (drop at s))

unfoldable pub file_root : List ℕ → ℕ → Option ℕ
file_root s at = root_in s (find_key key_pieces_root at (drop at s))

-- an empty file has no root
abbrev pub empty_file : Option Part → Option File
empty_file None = right_file 0 0
empty_file (Some w) = None

-- another has one
abbrev pub full_file : ℕ → Option ℕ → Option File
full_file n None = None
full_file n (Some r) = right_file n r

abbrev pub with_length : List ℕ → ℕ → Option ℕ → Option File
with_length s at None = None
with_length s at (Some n) = cond (eqb n 0) (empty_file (find_key key_pieces_root at (drop at s))) (full_file n (file_root s at))

-- the file whose dictionary is at `at`
unfoldable pub file_at : List ℕ → ℕ → Option File
file_at s at = with_length s at (file_length s at)
