-- 01, "The torrent", 22 to 28: what is amiss in the value that a torrent encodes, each number as 01 says it. `AmissLaws` has the
-- theorems: `value_number` gives each number exactly if what it says holds, and what the lower ones say does not.
-- Assumes nothing.
use Rattle.std.specs.Prelude.{◌≡◌, Bool, true, false, List, [], ℕ, ◌*◌, ◌^◌, ◌≤◌, ◌<◌, length}
use Rattle.limits.specs.Limits.{longest_file}
use Rattle.tree.specs.Geometry.{block_length, block_count, height, piece_layer, piece_count}
use Rattle.tree.specs.Values.{layer_root}
use Rattle.bencode.specs.Grammar.{Value, integer, string, dictionary, Entries, no_entries, entry}
use Rattle.bencode.specs.Parts.{Lookup, absent, present, lookup}
use Rattle.meaning.specs.Keys.{key_info, key_file_tree, key_piece_length, key_meta_version, key_piece_layers, key_length, key_pieces_root}
use Rattle.meaning.specs.Torrent.{info_of, tree_of, plen_of, layers_of, files_of, element_right, File}
use Rattle.meaning.specs.Nth.{Nth}

-- ---- 22: `info`, its `file tree`, `piece length`, `meta version`, or the outer `piece layers` missing or of another type

abbrev pub ADictionary : Lookup → Type 0
ADictionary x = (es : Entries) × (x ≡ present (dictionary es))

abbrev pub AnInteger : Lookup → Type 0
AnInteger x = (minus : Bool) × (n : ℕ) × (x ≡ present (integer minus n))

pub data KeyMissing (torrent : Entries) : Type 0 where
  info : (ADictionary (lookup key_info torrent) → ⊥) → KeyMissing torrent
  file_tree : (ADictionary (lookup key_file_tree (info_of torrent)) → ⊥) → KeyMissing torrent
  piece_length : (AnInteger (lookup key_piece_length (info_of torrent)) → ⊥) → KeyMissing torrent
  meta_version : (AnInteger (lookup key_meta_version (info_of torrent)) → ⊥) → KeyMissing torrent
  piece_layers : (ADictionary (lookup key_piece_layers torrent) → ⊥) → KeyMissing torrent

-- ---- 23: the version isn't 2

abbrev pub OtherVersion : Entries → Type 0
OtherVersion torrent = lookup key_meta_version (info_of torrent) ≡ present (integer false 2) → ⊥

-- ---- 24: the piece length isn't a power of two from 16 KiB to 16 MiB

abbrev pub PieceLengthOutOfRange : Entries → Type 0
PieceLengthOutOfRange torrent = (p : ℕ) → p ≤ 10 → lookup key_piece_length (info_of torrent) ≡ present (integer false (block_length * 2 ^ p)) → ⊥

-- ---- 25: the file tree isn't right

-- an integer `length` from 0 to the longest; a non-empty file has a `pieces root` of 32 bytes, an empty one has none
pub data RightFile : Value → Type 0 where
  empty : (es : Entries) → lookup key_length es ≡ present (integer false 0) → lookup key_pieces_root es ≡ absent → RightFile (dictionary es)
  full : (es : Entries) (n : ℕ) (root : List ℕ) → lookup key_length es ≡ present (integer false n) → 0 < n → n ≤ longest_file → lookup key_pieces_root es ≡ present (string root) → length root ≡ 32
      → RightFile (dictionary es)

-- a node is a dictionary: a file by an empty key alone, or a directory; a directory has an entry or more, each with a right path
-- element and a right node
mutual
  pub data RightNode : Value → Type 0 where
    file : (v : Value) → RightFile v → RightNode (dictionary (entry [] v no_entries))
    directory : (es : Entries) → RightDirectory es → RightNode (dictionary es)

  pub data RightDirectory : Entries → Type 0 where
    one : (k : List ℕ) (v : Value) → element_right k ≡ true → RightNode v → RightDirectory (entry k v no_entries)
    more : (k : List ℕ) (v : Value) (es : Entries) → element_right k ≡ true → RightNode v → RightDirectory es → RightDirectory (entry k v es)

-- `file tree` is a directory
abbrev pub WrongTree : Entries → Type 0
WrongTree torrent = RightDirectory (tree_of torrent) → ⊥

-- ---- 26: two non-empty files with one root and different lengths

pub record TwoLengths (files : List File) : Type 0 where
  pub i : ℕ
  pub j : ℕ
  pub one : File
  pub other : File
  pub one_at : Nth files i one
  pub other_at : Nth files j other
  pub one_full : 0 < one.size
  pub other_full : 0 < other.size
  pub same_root : one.root ≡ other.root
  pub different : one.size ≡ other.size → ⊥

-- ---- 27: the keys of `piece layers` aren't exactly the roots of files longer than the piece length, or a value isn't 32 bytes per piece

-- the layer of a file longer than the piece length
pub record LayerOf (plen : ℕ) (layers : Entries) (f : File) (layer : List ℕ) : Type 0 where
  pub longer : plen < f.size
  pub found : lookup f.root layers ≡ present (string layer)
  pub size : length layer ≡ 32 * piece_count f.size plen

-- each file longer than the piece length has one, and each key is the root of such a file
pub record LayersRight (plen : ℕ) (layers : Entries) (files : List File) : Type 0 where
  pub each_file : (n : ℕ) (f : File) → Nth files n f → plen < f.size → (layer : List ℕ) × LayerOf plen layers f layer
  pub each_key : (k : List ℕ) → (lookup k layers ≡ absent → ⊥) → (n : ℕ) × (f : File) × Nth files n f × (plen < f.size) × (k ≡ f.root)

-- ---- 28: a layer doesn't give its root

pub record LayerDiffers (plen : ℕ) (layers : Entries) (files : List File) : Type 0 where
  pub n : ℕ
  pub file : File
  pub file_at : Nth files n file
  pub layer : List ℕ
  pub is_layer : LayerOf plen layers file layer
  pub differs : layer_root layer (piece_layer plen) (height (block_count file.size)) ≡ file.root → ⊥

-- ---- what is amiss, by its number

abbrev pub Amiss22 : Entries → Type 0
Amiss22 torrent = KeyMissing torrent

abbrev pub Amiss23 : Entries → Type 0
Amiss23 torrent = OtherVersion torrent

abbrev pub Amiss24 : Entries → Type 0
Amiss24 torrent = PieceLengthOutOfRange torrent

abbrev pub Amiss25 : Entries → Type 0
Amiss25 torrent = WrongTree torrent

abbrev pub Amiss26 : Entries → Type 0
Amiss26 torrent = TwoLengths (files_of torrent)

abbrev pub Amiss27 : Entries → Type 0
Amiss27 torrent = LayersRight (plen_of torrent) (layers_of torrent) (files_of torrent) → ⊥

abbrev pub Amiss28 : Entries → Type 0
Amiss28 torrent = LayerDiffers (plen_of torrent) (layers_of torrent) (files_of torrent)

-- what no lower number says
abbrev pub NoneBelow23 : Entries → Type 0
NoneBelow23 torrent = Amiss22 torrent → ⊥

abbrev pub NoneBelow24 : Entries → Type 0
NoneBelow24 torrent = NoneBelow23 torrent × (Amiss23 torrent → ⊥)

abbrev pub NoneBelow25 : Entries → Type 0
NoneBelow25 torrent = NoneBelow24 torrent × (Amiss24 torrent → ⊥)

abbrev pub NoneBelow26 : Entries → Type 0
NoneBelow26 torrent = NoneBelow25 torrent × (Amiss25 torrent → ⊥)

abbrev pub NoneBelow27 : Entries → Type 0
NoneBelow27 torrent = NoneBelow26 torrent × (Amiss26 torrent → ⊥)

abbrev pub NoneBelow28 : Entries → Type 0
NoneBelow28 torrent = NoneBelow27 torrent × (Amiss27 torrent → ⊥)

abbrev pub NoneAmiss : Entries → Type 0
NoneAmiss torrent = NoneBelow28 torrent × (Amiss28 torrent → ⊥)
