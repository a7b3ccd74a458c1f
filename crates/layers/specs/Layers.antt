-- 01, "The torrent", 27 and 28: the piece layers by the positions of their keys. l is the part of a torrent that the value of
-- `piece layers` is, t the part that `file tree` is.
-- Assumes nothing.
use Rattle.std.specs.Prelude.{◌≡◌, Bool, true, false, cond, List, [], ◌∷◌, ℕ, zero, suc, ◌+◌, ◌-◌, ◌*◌, ◌≤◌, length, drop, take, eqb, Option, Some, None}
use Rattle.octets.specs.Octets.{cut, same, zero_hash}
use Rattle.limits.specs.Limits.{largest_torrent}
use Rattle.numbers.specs.Numbers.{layers_amiss, layer_differs}
use Rattle.numbers.specs.Refusals.{number_of}
use Rattle.numbers.specs.declared.Refused.{Refused}
use Rattle.tree.specs.Geometry.{block_count, height, piece_layer, piece_count, has_layer}
use Rattle.tree.specs.Values.{layer_root}
use Rattle.bencode.specs.Scalar.{read_string}
use Rattle.bencode.specs.Parts.{is_dictionary, read_entry, find_key}
use Rattle.bencode.specs.declared.part.Part.{Part}
use Rattle.bencode.specs.declared.parts.Entry.{Entry}
use Rattle.sorting.specs.Sorting.{Ascending}
use Rattle.filetree.specs.Tree.{Element, Listed, wrong, files, files_below}
use Rattle.layers.specs.declared.Numbered.{Numbered}

-- ---- a layer by its root

abbrev pub string_in : List ℕ → Option Part → Option Part
string_in s None = None
string_in s (Some w) = read_string w.start (drop w.start s)

-- the string that `piece layers` has for a root
unfoldable pub layer_at : List ℕ → List ℕ → Option Part
layer_at l root = string_in l (find_key root 0 l)

-- a string's content lies within the bytes
abbrev pub Inside : ℕ → Option Part → Type 0
Inside end None = Unit {0}
Inside end (Some w) = (w.start ≤ w.end) × (w.end ≤ end)

-- ---- the keys

abbrev pub keys_on : (ℕ → List ℕ) → Option Entry → List ℕ
keys_on go None = []
keys_on go (Some w) = w.start ∷ go w.end

-- where the keys stand; each entry takes a byte, so that more steps than bytes are enough
unfoldable pub keys_from : ℕ → List ℕ → ℕ → List ℕ
keys_from zero s at = []
keys_from (suc steps) s at = keys_on (keys_from steps s) (read_entry at (drop at s))

abbrev pub wide_on : (ℕ → Bool) → Option Entry → Bool
wide_on go None = true
wide_on go (Some w) = cond (eqb (w.value - w.start) 32) (go w.end) false

-- whether each has 32 bytes
unfoldable pub wide_from : ℕ → List ℕ → ℕ → Bool
wide_from zero s at = true
wide_from (suc steps) s at = wide_on (wide_from steps s) (read_entry at (drop at s))

unfoldable pub layer_keys : List ℕ → List ℕ
layer_keys l = keys_from (suc (length (drop 1 l))) l 1

unfoldable pub keys_wide : List ℕ → Bool
keys_wide l = wide_from (suc (length (drop 1 l))) l 1

-- the first `count` of `keys` are where the keys of `piece layers` stand, each of 32 bytes, in ascending order
pub record Indexed (l keys : List ℕ) (count : ℕ) : Type 0 where
  pub opens : is_dictionary l ≡ true
  pub wide : keys_wide l ≡ true
  pub room : count ≤ length keys
  pub all : take count keys ≡ layer_keys l
  pub ascending : Ascending l keys count

-- `piece layers` is a dictionary, and its keys ascend
pub record LayersOpen (l : List ℕ) : Type 0 where
  pub small : length l ≤ largest_torrent
  pub opens : is_dictionary l ≡ true
  pub ascending : keys_wide l ≡ true → (keys : List ℕ) (count : ℕ) → count ≤ length keys → take count keys ≡ layer_keys l → Ascending l keys count

-- ---- the number of one file, and of all

-- 32 bytes for each piece, and the tree over them has the root
abbrev pub of_layer : List ℕ → ℕ → ℕ → List ℕ → Option Part → ℕ
of_layer l plen n root None = layers_amiss
of_layer l plen n root (Some w) =
    cond (eqb (w.end - w.start) (32 * piece_count n plen))
    (cond (same (layer_root (cut l w.start (w.end - w.start)) (piece_layer plen) (height (block_count n))) root) 0 layer_differs)
    layers_amiss

-- of a file of n bytes with this root; 0 of one that has no layer
unfoldable pub number_by_layer : List ℕ → ℕ → ℕ → List ℕ → ℕ
number_by_layer l plen n root = cond (has_layer n plen) (of_layer l plen n root (layer_at l root)) 0

-- the number of a refusal, if there is one
abbrev pub number_if : Option Refused → ℕ
number_if None = 0
number_if (Some why) = number_of why

-- of two numbers that are 0, 27 or 28 the lowest that is not 0
unfoldable pub lower : ℕ → ℕ → ℕ
lower w n = cond (eqb w layers_amiss) w (cond (eqb n 0) w n)

-- the lowest of the files fs and w
unfoldable pub worst : List ℕ → List ℕ → ℕ → ℕ → List Listed → ℕ
worst t l plen w [] = w
worst t l plen w (f ∷ fs) = worst t l plen (lower w (number_by_layer l plen f.size (cut t f.root 32))) fs

-- under any path a directory is wrong, or its number is the lowest of w and its files
abbrev pub Judges : List ℕ → ℕ → ℕ → List ℕ → ℕ → ℕ → Option Numbered → Type 0
Judges t at levels l plen w None = (path : List Element) → files_below levels t at path ≡ wrong
Judges t at levels l plen w (Some r) =
    (path : List Element) → (fs : List Listed) × (files_below levels t at path ≡ files fs r.next) × (number_if r.worst ≡ worst t l plen w fs)

-- ---- what is answered of a file

-- an empty file has the root of 32 zero bytes
unfoldable pub root_bytes : List ℕ → ℕ → ℕ → List ℕ
root_bytes t n r = cond (eqb n 0) zero_hash (cut t r 32)

-- only a file longer than the piece length has a layer
unfoldable pub layer_string : List ℕ → ℕ → ℕ → List ℕ → Option Part
layer_string l plen n root = cond (has_layer n plen) (layer_at l root) None

-- where a string's content begins in the torrent, of which l begins at `base`, and its size; 0 and 0 where there is none
abbrev pub start_of : ℕ → Option Part → ℕ
start_of base None = 0
start_of base (Some w) = base + w.start

abbrev pub size_of : Option Part → ℕ
size_of None = 0
size_of (Some w) = w.end - w.start
