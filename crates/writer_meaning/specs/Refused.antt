-- 02, request 4: what each number says of a list's content. `RefusedLaws` has the theorems: a content gets a number exactly if what the
-- number says holds, and what the lower ones say does not.
-- Assumes nothing.
use Rattle.std.specs.Prelude.{◌≡◌, false, List, [], ◌++◌, ℕ, ◌+◌, ◌*◌, ◌^◌, ◌≤◌, ◌<◌, length}
use Rattle.limits.specs.Limits.{largest_torrent, longest_file, max_levels}
use Rattle.octets.specs.Octets.{zero_hash}
use Rattle.tree.specs.Geometry.{block_length, block_count, height, piece_layer, piece_count}
use Rattle.tree.specs.Values.{layer_root}
use Rattle.bencode.specs.Grammar.{dictionary, encode}
use Rattle.meaning.specs.Counting.{Member}
use Rattle.meaning.specs.Nth.{Nth}
use Rattle.meaning.specs.Torrent.{element_right}
use Rattle.writer_meaning.specs.Content.{Item, torrent_of}

-- 19: the torrent would have more than 1 MiB
abbrev pub TooLarge : ℕ → List ℕ → List Item → Type 0
TooLarge plen name xs = largest_torrent < length (encode (dictionary (torrent_of plen name xs)))

-- 21: a path of so many elements that, with the four levels around it, it is deeper than 32
abbrev pub TooDeep : List Item → Type 0
TooDeep xs = (x : Item) × Member x xs × (max_levels < length x.path + 4)

-- 24: the piece length isn't a power of two from 16 KiB to 16 MiB
abbrev pub OutOfRange : ℕ → Type 0
OutOfRange plen = (p : ℕ) → p ≤ 10 → plen ≡ block_length * 2 ^ p → ⊥

-- 25
pub data WrongFiles (xs : List Item) : Type 0 where
  no_file : xs ≡ [] → WrongFiles xs
  no_element : (x : Item) → Member x xs → x.path ≡ [] → WrongFiles xs
  wrong_element : (x : Item) (e : List ℕ) → Member x xs → Member e x.path → element_right e ≡ false → WrongFiles xs
  too_long : (x : Item) → Member x xs → longest_file < x.size → WrongFiles xs
  empty_with_root : (x : Item) → Member x xs → x.size ≡ 0 → (x.root ≡ zero_hash → ⊥) → WrongFiles xs
  -- the path of one leads to, or through, where another's ends: a repeated path, or a file that is also a directory
  one_path_lem : (i j : ℕ) (x y : Item) → Nth xs i x → Nth xs j y → (i ≡ j → ⊥) → (rest : List (List ℕ)) → y.path ≡ x.path ++ rest → WrongFiles xs

-- two non-empty files with one root
pub record OneRoot (xs : List Item) (x y : Item) : Type 0 where
  pub one : Member x xs
  pub other : Member y xs
  pub one_full : 0 < x.size
  pub other_full : 0 < y.size
  pub same_root : x.root ≡ y.root

-- 26: of different lengths
abbrev pub TwoLengths : List Item → Type 0
TwoLengths xs = (x : Item) × (y : Item) × OneRoot xs x y × (x.size ≡ y.size → ⊥)

-- 27
pub data WrongLayers (plen : ℕ) (xs : List Item) : Type 0 where
  wrong_size : (x : Item) → Member x xs → plen < x.size → (length x.layer ≡ 32 * piece_count x.size plen → ⊥) → WrongLayers plen xs
  not_wanted : (x : Item) → Member x xs → x.size ≤ plen → (x.layer ≡ [] → ⊥) → WrongLayers plen xs

-- 28
pub data LayersDiffer (plen : ℕ) (xs : List Item) : Type 0 where
  other_root_lem : (x : Item) → Member x xs → plen < x.size → (layer_root x.layer (piece_layer plen) (height (block_count x.size)) ≡ x.root → ⊥) → LayersDiffer plen xs
  two_layers_lem : (x y : Item) → OneRoot xs x y → (x.layer ≡ y.layer → ⊥) → LayersDiffer plen xs
