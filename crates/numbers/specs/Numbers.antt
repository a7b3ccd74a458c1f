-- 01, "Numbers given back": the numbers by name, and the answer that carries one.
-- Assumes nothing.
use Rattle.std.specs.Prelude.{Bool, cond, List, [], ◌∷◌, ℕ}
use Rattle.numbers.specs.declared.Answer.{Answer}

-- below 49 bytes or another id; a request or reject not of 49 bytes
abbrev pub no_message : ℕ
no_message = 1

-- another pieces root
abbrev pub other_root : ℕ
other_root = 2

-- a header rule fails; a block or piece past the file; a layer for a file not longer than the piece length
abbrev pub rule_broken : ℕ
rule_broken = 3

-- the byte count isn't what header or file fixes, or is too long for SHA-256
abbrev pub wrong_size : ℕ
wrong_size = 4

-- a padding position with another value
abbrev pub wrong_padding : ℕ
wrong_padding = 5

-- anchor, leaf, piece node or, for a layer, the root not held
abbrev pub no_anchor : ℕ
no_anchor = 6

-- the worked-out value differs from the held anchor, leaf or node
abbrev pub differs : ℕ
differs = 7

-- the anchor agrees, another held position differs
abbrev pub conflict : ℕ
conflict = 8

-- the store names no facts in range, or has not their room
abbrev pub unusable : ℕ
unusable = 9

-- opening with facts out of range
abbrev pub facts_out_of_range : ℕ
facts_out_of_range = 10

-- the output is shorter than the reply, reject included
abbrev pub no_room : ℕ
no_room = 11

-- a requested hash isn't held
abbrev pub not_held : ℕ
not_held = 12

-- a torrent above 1 MiB
abbrev pub torrent_too_large : ℕ
torrent_too_large = 19

-- not strict bencoding
abbrev pub not_strict : ℕ
not_strict = 20

-- nested too deeply, before anything else is wrong
abbrev pub nested_too_deeply : ℕ
nested_too_deeply = 21

-- `info`, `file tree`, `piece length`, `meta version` or `piece layers` missing or of another type
abbrev pub key_missing : ℕ
key_missing = 22

-- the version isn't 2
abbrev pub other_version : ℕ
other_version = 23

-- the piece length out of range
abbrev pub piece_length_out_of_range : ℕ
piece_length_out_of_range = 24

-- the file tree isn't right
abbrev pub wrong_tree : ℕ
wrong_tree = 25

-- two non-empty files with the same root and different lengths
abbrev pub two_lengths : ℕ
two_lengths = 26

-- `piece layers` aren't those of the files longer than the piece length, each of its size
abbrev pub layers_amiss : ℕ
layers_amiss = 27

-- a layer doesn't give its root
abbrev pub layer_differs : ℕ
layer_differs = 28

-- no file, path element, name or piece of that number
abbrev pub no_such_part : ℕ
no_such_part = 29

-- a neighbour's frame, or a message to be framed, of more bytes than a frame may have
abbrev pub frame_too_long : ℕ
frame_too_long = 30

-- a hybrid whose halves don't describe the same files, or a malformed v1 key
abbrev pub halves_differ : ℕ
halves_differ = 31

-- saved bytes without a whole opening record, not of the form, or not a store's
abbrev pub not_saved : ℕ
not_saved = 32

-- the numbers of the table
abbrev pub table : List ℕ
table = 0 ∷ 1 ∷ 2 ∷ 3 ∷ 4 ∷ 5 ∷ 6 ∷ 7 ∷ 8 ∷ 9 ∷ 10 ∷ 11 ∷ 12 ∷ 19 ∷ 20 ∷ 21 ∷ 22 ∷ 23 ∷ 24 ∷ 25 ∷ 26 ∷ 27 ∷ 28 ∷ 29 ∷ 30 ∷ 31 ∷ 32 ∷ []

-- n is one of these
pub data Listed (n : ℕ) : List ℕ → Type 0 where
  first : {ns : List ℕ} → Listed n (n ∷ ns)
  later : {m : ℕ} {ns : List ℕ} → Listed n ns → Listed n (m ∷ ns)

abbrev pub InTable : ℕ → Type 0
InTable n = Listed n table

-- 6, 7, 8 or 0: the anchor held, as worked out, no held hash different
abbrev pub judged : Bool → Bool → Bool → ℕ
judged held alike all = cond held (cond alike (cond all 0 conflict) differs) no_anchor

-- beside a refusal the count is zero
abbrev pub refused : ℕ → Answer
refused n = record { number = n; count = 0 }

-- done, with the count or the reply's size
abbrev pub done : ℕ → Answer
done c = record { number = 0; count = c }
