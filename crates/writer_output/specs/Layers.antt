-- `piece layers` written from left to right: of entries that follow each other with one root the first is written.
-- Assumes nothing.
use Rattle.std.specs.Prelude.{◌≡◌, Bool, false, cond, List, [], ◌∷◌, ◌++◌, ℕ, ◌+◌, ◌≤◌, length, Option, Some, None}
use Rattle.octets.specs.Octets.{cut, same}
use Rattle.bencode.specs.Grammar.{letter_e, encode_string, KeyBefore, none, after}
use Rattle.writer_meaning.specs.Content.{Item, Layer}
use Rattle.writer_lists.specs.Lists.{record_size}

-- whether a root is that of the entry before
abbrev pub repeats : KeyBefore → List ℕ → Bool
repeats none k = false
repeats (after j) k = same j k

-- what is written of a root and its layer
abbrev pub layer_entry : KeyBefore → Layer → List ℕ
layer_entry j l = cond (repeats j l.0) [] (encode_string l.0 ++ encode_string l.1)

unfoldable pub layers_bytes : KeyBefore → List Layer → List ℕ
layers_bytes j [] = letter_e ∷ []
layers_bytes j (l ∷ ls) = layer_entry j l ++ layers_bytes (after l.0) ls

abbrev pub layer_of : Item → Layer
layer_of x = (x.root, x.layer)

-- the root of the record at `last`, if there was one
abbrev pub root_seen : List ℕ → Option ℕ → KeyBefore
root_seen list (Some last) = after (cut list (last + 8) 32)
root_seen list None = none

-- and the record stands within the list
abbrev pub Inside : List ℕ → Option ℕ → Type 0
Inside list last = (p : ℕ) → last ≡ Some p → p + record_size ≤ length list
