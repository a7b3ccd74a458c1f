-- 02, request 4: what the promises about `kd_torrent_write` are said in. A string of bytes is what `kd_torrent_read`, `kd_torrent_file` and
-- `kd_torrent_path` answer of it; a list is its form and its content. `Promised` has the theorems.
-- Assumes nothing.
use Rattle.std.specs.Prelude.{◌≡◌, List, [], ◌∷◌, map, ℕ, ◌+◌, ◌*◌, ◌^◌, ◌≤◌, ◌<◌, length, drop}
use Rattle.limits.specs.Limits.{max_levels}
use Rattle.octets.specs.Octets.{cut, number_at, pasted, zero_hash}
use Rattle.numbers.specs.Numbers.{wrong_size, no_room, torrent_too_large, nested_too_deeply, piece_length_out_of_range, wrong_tree, two_lengths, layers_amiss, layer_differs, refused, done}
use Rattle.numbers.specs.declared.Answer.{Answer}
use Rattle.bencode.specs.Grammar.{string, dictionary, Entries, encode, Valid}
use Rattle.bencode.specs.Parts.{present, lookup}
use Rattle.meaning.specs.Counting.{Member, Distinct}
use Rattle.meaning.specs.Nth.{Nth}
use Rattle.meaning.specs.Torrent.{info_of}
use Rattle.writer_meaning.specs.Content.{Item, key_name}
use Rattle.writer_meaning.specs.Refused.{TooLarge, TooDeep, OutOfRange, WrongFiles, TwoLengths, WrongLayers, LayersDiffer}
use Rattle.writer_lists.specs.Lists.{record_size, record_count, path_at, content_of}
use Rattle.writer.specs.Write.{torrent_bytes, write_answer, write_after}
use Rattle.torrent.specs.Torrent.{read_of, file_read, path_read}
use Rattle.torrent.specs.Answers.{PartIs}

-- ---- what the reader gives of the bytes s; `kd_torrent_list` gives the same (`list_record` of `calls`)

-- file n is x: its length, its root, each element of its path and its layer, by their bytes. A file without a layer has an empty one
pub record FileGiven (s : List ℕ) (n : ℕ) (x : Item) : Type 0 where
  pub number : (file_read s n).number ≡ 0
  pub size : (file_read s n).length ≡ x.size
  pub root : (file_read s n).root ≡ x.root
  pub elements : (file_read s n).elements ≡ length x.path
  pub element : (k : ℕ) (e : List ℕ) → Nth x.path k e → PartIs s e (path_read s n k)
  pub layer_size : (file_read s n).size ≡ length x.layer
  pub layer : cut s (file_read s n).start (file_read s n).size ≡ x.layer

-- 0, this piece length, and these files, each at its number
pub record Gives (s : List ℕ) (plen : ℕ) (xs : List Item) : Type 0 where
  pub number : (read_of s).number ≡ 0
  pub piece_length_lem : (read_of s).plen ≡ plen
  pub count : (read_of s).files ≡ length xs
  pub each : (n : ℕ) (x : Item) → Nth xs n x → FileGiven s n x

-- s encodes a dictionary whose `info` has this `name`
abbrev pub Named : List ℕ → List ℕ → Type 0
Named s name = (es : Entries) × Valid (dictionary es) max_levels × (s ≡ encode (dictionary es)) × (lookup key_name (info_of es) ≡ present (string name))

-- ---- the form of a list

-- a path: nothing, or a size of four bytes, so many bytes, and a path
pub data PathForm : List ℕ → List (List ℕ) → Type 0 where
  ends : (s : List ℕ) (path : List (List ℕ)) → s ≡ [] → path ≡ [] → PathForm s path
  goes_on : (s : List ℕ) (path rest : List (List ℕ)) → 4 + number_at s 0 4 ≤ length s → path ≡ cut s 4 (number_at s 0 4) ∷ rest → PathForm (drop (4 + number_at s 0 4) s) rest → PathForm s path

-- the record at a place of the list: a length below 2^63, two parts that end within the text, and the second is a path
pub record RecordForm (list text : List ℕ) (at : ℕ) : Type 0 where
  pub length_fits : number_at list at 8 < 2 ^ 63
  pub layer_within : number_at list (at + 40) 4 + number_at list (at + 40 + 4) 4 ≤ length text
  pub path_within : number_at list (at + 48) 4 + number_at list (at + 48 + 4) 4 ≤ length text
  pub path_form : (path : List (List ℕ)) × PathForm (path_at list text at) path

-- records of 56 bytes and nothing behind them, each in its form
pub record InForm (list text : List ℕ) : Type 0 where
  pub whole : length list ≡ record_size * record_count list
  pub each : (n : ℕ) → n < record_count list → RecordForm list text (record_size * n)

-- what the text of a content takes: its layers, and its paths with a size of four bytes for each element
unfoldable pub path_size : List (List ℕ) → ℕ
path_size [] = 0
path_size (e ∷ p) = 4 + length e + path_size p

unfoldable pub text_size : List Item → ℕ
text_size [] = 0
text_size (x ∷ xs) = length x.layer + path_size x.path + text_size xs

-- ---- the numbers

-- what a number says of a content
pub data ContentSays (plen : ℕ) (name : List ℕ) (xs : List Item) (n : ℕ) : Type 0 where
  too_large_lem : n ≡ torrent_too_large → TooLarge plen name xs → ContentSays plen name xs n
  too_deep_lem : n ≡ nested_too_deeply → TooDeep xs → ContentSays plen name xs n
  out_of_range : n ≡ piece_length_out_of_range → OutOfRange plen → ContentSays plen name xs n
  wrong_files : n ≡ wrong_tree → WrongFiles xs → ContentSays plen name xs n
  two_lengths_lem : n ≡ two_lengths → TwoLengths xs → ContentSays plen name xs n
  wrong_layers : n ≡ layers_amiss → WrongLayers plen xs → ContentSays plen name xs n
  layers_differ : n ≡ layer_differs → LayersDiffer plen xs → ContentSays plen name xs n

-- what a number says of the call: 4 before all; the lowest that the content is refused with; 11 behind them; 0
pub data WriteSays (list text : List ℕ) (plen : ℕ) (name out : List ℕ) (n : ℕ) : Type 0 where
  no_form : n ≡ wrong_size → (InForm list text → ⊥) → WriteSays list text plen name out n
  of_content : InForm list text → ContentSays plen name (content_of list text) n → ((m : ℕ) → m < n → ContentSays plen name (content_of list text) m → ⊥) → WriteSays list text plen name out n
  too_short : n ≡ no_room → InForm list text → ((m : ℕ) → ContentSays plen name (content_of list text) m → ⊥) → length out < length (torrent_bytes list text plen name) → WriteSays list text plen name out n
  written : n ≡ 0 → InForm list text → ((m : ℕ) → ContentSays plen name (content_of list text) m → ⊥) → length (torrent_bytes list text plen name) ≤ length out → WriteSays list text plen name out n

-- the contents of which the reader says the number: no path repeats, no path and no element is empty, no root has two layers, empty files
-- have the zero root and no layer
pub record PlainContent (xs : List Item) : Type 0 where
  pub no_repeat : Distinct (map (λ (x : Item). x.path) xs)
  pub path_full : (x : Item) → Member x xs → x.path ≡ [] → ⊥
  pub element_full : (x : Item) → Member x xs → Member [] x.path → ⊥
  pub one_layer : (x y : Item) → Member x xs → Member y xs → 0 < x.size → 0 < y.size → x.root ≡ y.root → x.layer ≡ y.layer
  pub empty_root : (x : Item) → Member x xs → x.size ≡ 0 → x.root ≡ zero_hash
  pub empty_layer : (x : Item) → Member x xs → x.size ≡ 0 → x.layer ≡ []

-- ---- the outcomes

-- the bytes that were written beside 0: as many as the count says, at the start of the output
abbrev pub written_bytes : List ℕ → List ℕ → ℕ → List ℕ → List ℕ → List ℕ
written_bytes list text plen name out = cut (write_after list text plen name out) 0 (write_answer list text plen name out).count

-- the numbers of the table that the call gives
pub data WriteNumber (n : ℕ) : Type 0 where
  is_4 : n ≡ wrong_size → WriteNumber n
  is_11 : n ≡ no_room → WriteNumber n
  is_19 : n ≡ torrent_too_large → WriteNumber n
  is_21 : n ≡ nested_too_deeply → WriteNumber n
  is_24_to_28 : piece_length_out_of_range ≤ n → n ≤ layer_differs → WriteNumber n

-- kd_torrent_write, with the output before and after: 0 and the size, and so many bytes put before the rest; or such a number beside
-- zero, and the output as it was
pub data WriteOutcome (out : List ℕ) (answer : Answer) (after : List ℕ) : Type 0 where
  put : (bytes : List ℕ) → length bytes ≤ length out → answer ≡ done (length bytes) → after ≡ pasted out 0 bytes → WriteOutcome out answer after
  left : (n : ℕ) → WriteNumber n → answer ≡ refused n → after ≡ out → WriteOutcome out answer after
