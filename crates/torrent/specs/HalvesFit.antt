-- 02, request 12: what `info`, the part i, has for a key; and whether its v1 half fits beside the files of the tree.
-- Assumes nothing.
use Rattle.bencode.specs.Scalar.{part}
use Prim.{Unit}
use Rattle.std.specs.Prelude.{◌≡◌, Bool, true, false, not, ◌&&◌, ◌||◌, List, ℕ, ◌-◌, ◌≤◌, length, Option, Some, None}
use Rattle.octets.specs.Octets.{cut}
use Rattle.bencode.specs.Grammar.{Entries, dictionary}
use Rattle.bencode.specs.Parts.{Lookup, absent, lookup, find_key}
use Rattle.bencode.specs.declared.part.Part.{Part}
use Rattle.meaning.specs.Keys.{key_length}
use Rattle.meaning.specs.Torrent.{File}
use Rattle.halves.specs.V1Keys.{key_files, key_name, key_pieces}
use Rattle.halves.specs.V1Half.{is_there, has_string, bytes_of, half_fits, v1_entries, total, files_among, same_files, on_boundary, pieces_fit}
use Rattle.hybrid.specs.Entry.{StandsAt}
use Rattle.torrent.specs.declared.both.HalfKeys.{HalfKeys}
use Rattle.torrent.specs.declared.both.KeyString.{KeyString}
use Rattle.torrent.specs.declared.both.KeyString.TheVariants.{NoKey, Text, OtherType}

-- what was found first
abbrev pub or_else : Option Part → Option Part → Option Part
or_else None y = y
or_else (Some w) y = part w.start w.end

-- each key is where a search for it alone finds it
pub record KeysFound (i : List ℕ) (r : HalfKeys) : Type 0 where
  pub files : r.files ≡ find_key key_files 0 i
  pub length : r.length ≡ find_key key_length 0 i
  pub name : r.name ≡ find_key key_name 0 i
  pub pieces : r.pieces ≡ find_key key_pieces 0 i

-- a string's content lies within the part
abbrev pub Within : ℕ → KeyString → Type 0
Within n NoKey = Unit {0}
Within n OtherType = Unit {0}
Within n (Text a b) = (a ≤ b) × (b ≤ n)

-- what was read is what the key has: nothing, a value that is no string, or a string with this content
abbrev pub StringIs : List ℕ → Lookup → KeyString → Type 0
StringIs i x NoKey = x ≡ absent
StringIs i x OtherType = (is_there x ≡ true) × (has_string x ≡ false)
StringIs i x (Text a b) = (has_string x ≡ true) × (cut i a (b - a) ≡ bytes_of x)

-- so it is of every `info` that stands there
pub record StringRead (i key : List ℕ) (r : KeyString) : Type 0 where
  pub ends : Within (length i) r
  pub string : (info : Entries) → StandsAt i 0 (dictionary info) → StringIs i (lookup key info) r

-- no `pieces`, or a half that fits: `halves_fit` of a torrent with this piece length and these files
abbrev pub fit_beside : ℕ → List File → Entries → Bool
fit_beside plen fs info =
    not (is_there (lookup key_pieces info))
    || (half_fits info
    && (same_files (files_among (v1_entries info)) fs
    && (on_boundary plen 0 (v1_entries info)
    && pieces_fit plen (total (v1_entries info)) (lookup key_pieces info))))
