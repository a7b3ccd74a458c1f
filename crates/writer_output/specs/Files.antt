-- The bytes of the files, at the positions of their records.
-- Assumes nothing.
use Rattle.std.specs.Prelude.{List, [], ◌++◌, ℕ, ◌+◌}
use Rattle.octets.specs.Octets.{cut, number_at}
use Rattle.bencode.specs.Grammar.{encode_string, encode}
use Rattle.writer_meaning.specs.Content.{Item, properties}

-- the properties need a length and a root alone
abbrev pub plain_file : ℕ → List ℕ → Item
plain_file n r = record { path = []; size = n; root = r; layer = [] }

-- the empty key and the properties
abbrev pub properties_bytes : ℕ → List ℕ → List ℕ
properties_bytes n r = encode_string [] ++ encode (properties (plain_file n r))

abbrev pub file_in : List ℕ → ℕ → Item
file_in list at = plain_file (number_at list at 8) (cut list (at + 8) 32)
