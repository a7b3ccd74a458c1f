-- What hosts need: of a torrent s the part that the value of `info` is, and in it the part that the content of the string `name` is.
-- Assumes nothing.
use Rattle.std.specs.Prelude.{cond, List, ℕ, ◌-◌, drop, eqb, Option, Some, None}
use Rattle.numbers.specs.Numbers.{no_such_part}
use Rattle.bencode.specs.Parts.{find_key}
use Rattle.bencode.specs.declared.part.Part.{Part}
use Rattle.writer_meaning.specs.Content.{key_name}
use Rattle.layers.specs.Layers.{string_in}
use Rattle.torrent.specs.Torrent.{PartRead, Checked, checked_of, no_part_read}

-- the part a..b
abbrev pub part_to : ℕ → ℕ → PartRead
part_to a b = record { number = 0; start = a; size = b - a }

-- ---- `info`: 19 to 28 or 31, or 0 and its value's part

abbrev pub info_in : Checked → PartRead
info_in c = cond (eqb c.keys.number 0) (part_to c.keys.info.start c.keys.info.end) (no_part_read c.keys.number)

unfoldable pub info_read : List ℕ → PartRead
info_read s = info_in (checked_of s)

-- ---- its `name`: 19 to 28 or 31; 29 where `info` has no string `name`; or 0 and the part of the string's content

abbrev pub content_part : Option Part → PartRead
content_part None = no_part_read no_such_part
content_part (Some w) = part_to w.start w.end

-- the string that the dictionary at `at` has for `name`
unfoldable pub name_from : List ℕ → ℕ → Option Part
name_from s at = string_in s (find_key key_name at (drop at s))

abbrev pub name_in : List ℕ → Checked → PartRead
name_in s c = cond (eqb c.keys.number 0) (content_part (name_from s c.keys.info.start)) (no_part_read c.keys.number)

unfoldable pub name_read : List ℕ → PartRead
name_read s = name_in s (checked_of s)
