-- 02, request 2: a torrent with the same image in two folders that gets 0. The image has 16385 bytes, so two pieces of 16384; both files
-- have one root, and `piece layers` has one entry for both.
-- Assumes nothing.
use Rattle.std.specs.Prelude.{◌≡◌, Bool, false, not, ◌&&◌, ◌||◌, ℕ, ◌<◌, length, List, [], ◌∷◌, ◌++◌}
use Rattle.std.proofs.Math.Path.{refl, ap, ap₂}
use Rattle.std.proofs.Common.{sym, ◌∙◌, eq-eqb, arith}
use Rattle.std.proofs.Math.Bool.{true, cond}
use Rattle.meaning.specs.Keys.{key_length, key_pieces_root, key_info, key_file_tree, key_meta_version, key_piece_layers}
use Rattle.limits.specs.Limits.{max_levels}
use Rattle.octets.specs.Octets.{cut, zero_hash, same}
use Rattle.octets.specs.OctetsLaws.{same_refl}
use Rattle.sha256.specs.Sha256.{sha256}
use Rattle.tree.specs.Geometry.{block_count, ceil_div, is_piece_length, piece_layer, piece_count, height, height_from, has_layer}
use Rattle.tree.specs.Values.{layer_root}
use Rattle.bencode.specs.Grammar.{integer, string, dictionary, Entries, no_entries, entry, decimal_in, encode_string, encode, encode_entries, precedes, Valid}
use Rattle.bencode.specs.PartsLaws.{entries_length, one_string}
use Rattle.bencode.specs.Parts.{Lookup, present, absent, lookup}
use Rattle.bencode.specs.CompleteLaws.{dictionary_length}
use Rattle.meaning.specs.Nth.{Nth}
use Rattle.meaning.specs.Torrent.{File, is_number, info_of, tree_of, files_of, plen_of, layers_of, without, has_keys, element_right, file_right, node_right, branch_right, nodes_right, tree_right, files_of_node, files_of_entries, no_other_length, lengths_agree, layer_fits, layers_fit, some_longer, no_others, gives_root, layer_bytes, layers_give_roots}
use Rattle.halves.specs.V1Keys.{key_pieces}
use Rattle.halves.specs.V1Half.{torrent_number}
use Rattle.torrent.specs.Torrent.{FileRead, Torrent, read_of, file_read, path_read}
use Rattle.torrent.specs.NumberMeans.{number_is_the_values, read_number_lem}
use Rattle.torrent.specs.Answers.{FileIs, PartIs}
use Rattle.torrent.specs.ReadMeans.{torrent_is, info_hash, file_is, element_is, same_part}
use Rattle.torrent.specs.LayerExample.{all_pass, layer, string_size, value_size, after_tree, the_root, root_size, layer_size}

-- `image`
abbrev name : List ℕ
name = 105 ∷ 109 ∷ 97 ∷ 103 ∷ 101 ∷ []

-- ---- with any root

module _ (root : List ℕ) where
  abbrev leaf : Entries
  leaf = entry key_length (integer false 16385) (entry key_pieces_root (string root) no_entries)

  abbrev node : Entries
  node = entry [] (dictionary leaf) no_entries

  abbrev folder : Entries
  folder = entry name (dictionary node) no_entries

  -- the folders `a` and `b`
  abbrev tree : Entries
  tree = entry (97 ∷ []) (dictionary folder) (entry (98 ∷ []) (dictionary folder) no_entries)

  abbrev info : Entries
  info = entry key_file_tree (dictionary tree) after_tree

  abbrev layers : Entries
  layers = entry root (string layer) no_entries

  abbrev with_root : Entries
  with_root = entry key_info (dictionary info) (entry key_piece_layers (dictionary layers) no_entries)

  -- the image in a folder
  abbrev image_in : List ℕ → File
  image_in path = record { size = 16385; root = root; path = path ∷ name ∷ [] }

  -- it is valid
  leaf_valid : Valid (dictionary leaf) 27
  unfolding Valid precedes
  leaf_valid = (refl, omega arith, (refl, tt, tt))

  with_valid : Valid (dictionary with_root) max_levels
  unfolding Valid precedes
  with_valid =
      (refl, (refl, (refl, (refl, (refl, leaf_valid, tt), tt), (refl, (refl, (refl, leaf_valid, tt), tt), tt)), (refl, omega arith, (refl, omega arith, tt))), (refl, (refl, tt, tt), tt))

  the_layers : layers_of with_root ≡ layers
  unfolding lookup same
  the_layers = refl

  -- and passes the tests, one after the other
  keys_right : has_keys with_root ≡ true
  unfolding lookup same has_keys
  keys_right = refl

  version_right : is_number 2 (lookup key_meta_version (info_of with_root)) ≡ true
  unfolding lookup same
  version_right = refl

  piece_right : is_piece_length (plen_of with_root) ≡ true
  unfolding lookup same is_piece_length piece_layer height height_from
  piece_right = refl

  tree_right_lem : length root ≡ 32 → tree_right (tree_of with_root) ≡ true
  unfolding lookup same tree_right branch_right node_right nodes_right element_right without file_right
  tree_right_lem e = ap (λ (t : Bool). (t && true) && ((t && true) && true)) (eq-eqb (length root) 32 e)

  -- one root, and one length
  lengths_right : lengths_agree (files_of with_root) ≡ true
  unfolding lookup same files_of_entries files_of_node lengths_agree no_other_length
  lengths_right = ap (λ (t : Bool). (not (t && false) && true) && true) (same_refl root)

  -- the root is the one key
  the_key : lookup root layers ≡ present (string layer)
  unfolding lookup
  the_key = ap (λ (t : Bool). cond t (present (string layer)) absent) (same_refl root)

  -- 32 bytes for each of two pieces
  two_pieces : (path : List ℕ) → layer_fits 16384 (image_in path) (lookup root layers) ≡ true
  unfolding zero_hash piece_count ceil_div
  two_pieces path = ap (layer_fits 16384 (image_in path)) the_key

  fit_right : layers_fit (plen_of with_root) (layers_of with_root) (files_of with_root) ≡ true
  unfolding lookup same files_of_entries files_of_node layers_fit has_layer
  fit_right = ap₂ (λ (t u : Bool). t && (u && true)) (two_pieces (97 ∷ [])) (two_pieces (98 ∷ []))

  others_right : no_others (plen_of with_root) (files_of with_root) (layers_of with_root) ≡ true
  unfolding lookup same files_of_entries files_of_node no_others some_longer has_layer
  others_right = ap (λ (t : Bool). (t || (t || false)) && true) (same_refl root)

  -- the layer gives the root
  gives : layer_root layer 0 1 ≡ root → (path : List ℕ) → gives_root 16384 (image_in path) layer ≡ true
  unfolding piece_layer height height_from block_count ceil_div
  gives e path = rw e (same_refl root)

  gives_right : layer_root layer 0 1 ≡ root → layers_give_roots (plen_of with_root) (layers_of with_root) (files_of with_root) ≡ true
  unfolding lookup same files_of_entries files_of_node layers_give_roots has_layer
  gives_right e = ap₂ (λ (t u : Bool). t && (u && true)) (each (97 ∷ [])) (each (98 ∷ []))
    where
      each : (path : List ℕ) → gives_root 16384 (image_in path) (layer_bytes (lookup root layers)) ≡ true
      each path = ap (λ (x : Lookup). gives_root 16384 (image_in path) (layer_bytes x)) the_key ∙ gives e path

  with_pure : lookup key_pieces (info_of with_root) ≡ absent
  unfolding lookup same
  with_pure = refl

  with_right : length root ≡ 32 → layer_root layer 0 1 ≡ root → torrent_number with_root ≡ 0
  with_right l e = all_pass with_root with_pure keys_right version_right piece_right (tree_right_lem l) lengths_right fit_right others_right (gives_right e)

-- ---- its size

fixed_sizes : (length (encode_string key_info) ≡ 6) × (length (encode_string key_piece_layers) ≡ 15) × (length (encode_string key_file_tree) ≡ 11) × (length (encode_string (97 ∷ [])) ≡ 3)
    × (length (encode_string (98 ∷ [])) ≡ 3) × (length (encode_string name) ≡ 7) × (length (encode_string []) ≡ 2) × (length (encode_string key_length) ≡ 8) × (length (encode_string key_pieces_root) ≡ 14)
    × (length (encode (integer false 16385)) ≡ 7) × (length (encode (string layer)) ≡ 67) × (length (encode_entries after_tree) ≡ 41) × (length (encode_entries no_entries) ≡ 1)
unfolding encode decimal_in zero_hash
fixed_sizes = (refl, refl, refl, refl, refl, refl, refl, refl, refl, refl, refl, refl, refl)

-- a folder takes 79 bytes
folder_size : (root : List ℕ) → length root ≡ 32 → length (encode (dictionary (folder root))) ≡ 79
folder_size root e =
    omega (
      arith,
      fixed_sizes,
      value_size root e,
      entries_length key_length (integer false 16385) (entry key_pieces_root (string root) no_entries),
      entries_length key_pieces_root (string root) no_entries,
      entries_length [] (dictionary (leaf root)) no_entries,
      entries_length name (dictionary (node root)) no_entries,
      dictionary_length (leaf root),
      dictionary_length (node root),
      dictionary_length (folder root),
    )

-- the torrent has 346 bytes
with_size : (root : List ℕ) → length root ≡ 32 → length (encode (dictionary (with_root root))) ≡ 346
with_size root e =
    omega (
      arith,
      fixed_sizes,
      string_size root e,
      folder_size root e,
      entries_length (97 ∷ []) (dictionary (folder root)) (entry (98 ∷ []) (dictionary (folder root)) no_entries),
      entries_length (98 ∷ []) (dictionary (folder root)) no_entries,
      entries_length key_file_tree (dictionary (tree root)) after_tree,
      entries_length root (string layer) no_entries,
      entries_length key_piece_layers (dictionary (layers root)) no_entries,
      entries_length key_info (dictionary (info root)) (entry key_piece_layers (dictionary (layers root)) no_entries),
      dictionary_length (tree root),
      dictionary_length (info root),
      dictionary_length (layers root),
      dictionary_length (with_root root),
    )

-- ---- the torrent

abbrev pub twins : Entries
twins = with_root the_root

abbrev pub bytes : List ℕ
bytes = encode (dictionary twins)

-- the image in folder `a`, and in folder `b`
abbrev pub first : File
first = image_in the_root (97 ∷ [])

abbrev pub second : File
second = image_in the_root (98 ∷ [])

pub twins_valid : Valid (dictionary twins) max_levels
twins_valid = with_valid the_root

-- it gets 0
pub twins_taken : (read_of bytes).number ≡ 0
twins_taken = read_number_lem bytes ∙ number_is_the_values bytes twins refl twins_valid (let n = with_size the_root root_size in omega arith) ∙ with_right the_root root_size refl

the_info : info_of twins ≡ info the_root
unfolding lookup same
the_info = refl

the_plen : plen_of twins ≡ 16384
unfolding lookup same
the_plen = refl

two_files : length (files_of twins) ≡ 2
unfolding lookup same files_of_entries files_of_node
two_files = refl

torrent_of : (r : Torrent) (h : List ℕ) (p f : ℕ) → r.number ≡ 0 → r.hash ≡ h → r.plen ≡ p → r.files ≡ f → r ≡ record { number = 0; hash = h; plen = p; files = f }
torrent_of r h p f a b c d = rw (sym a, sym b, sym c, sym d) refl

-- with the info hash of these bytes, its piece length and two files
pub twins_read : read_of bytes ≡ record { number = 0; hash = sha256 (encode (dictionary (info the_root))); plen = 16384; files = 2 }
twins_read =
    let t = torrent_is bytes twins refl twins_valid twins_taken in
    torrent_of (read_of bytes) (sha256 (encode (dictionary (info the_root)))) 16384 2 twins_taken
    (info_hash bytes twins refl twins_valid twins_taken ∙ ap (λ (x : Entries). sha256 (encode (dictionary x))) the_info) (t.piece_length_lem ∙ the_plen) (t.file_count ∙ two_files)

at_first : Nth (files_of twins) 0 first
unfolding Nth lookup same files_of_entries files_of_node
at_first = refl

at_second : Nth (files_of twins) 1 second
unfolding Nth lookup same files_of_entries files_of_node
at_second = refl

-- both files are answered as they are
pub twins_first : FileIs bytes twins first (file_read bytes 0)
twins_first = file_is bytes twins refl twins_valid twins_taken 0 first at_first

pub twins_second : FileIs bytes twins second (file_read bytes 1)
twins_second = file_is bytes twins refl twins_valid twins_taken 1 second at_second

longer : plen_of twins < first.size
unfolding lookup same
longer = omega arith

has_layer_lem : lookup first.root (layers_of twins) ≡ present (string layer)
has_layer_lem = ap (lookup the_root) (the_layers the_root) ∙ the_key the_root

file_of : (r : FileRead) (n : ℕ) (h : List ℕ) (e s m : ℕ) → r.number ≡ 0 → r.length ≡ n → r.root ≡ h → r.elements ≡ e → r.start ≡ s → r.size ≡ m
    → r ≡ record { number = 0; length = n; root = h; elements = e; start = s; size = m }
file_of r n h e s m a b c d f g = rw (sym a, sym b, sym c, sym d, sym f, sym g) refl

-- the layer's 64 bytes are where the first is answered
pub twins_layer : ((file_read bytes 0).size ≡ 64) × (cut bytes (file_read bytes 0).start 64 ≡ zero_hash ++ zero_hash)
twins_layer =
    let w = twins_first.layer longer in
    let b : w.0 ≡ layer = one_string w.0 layer (sym w.1 ∙ has_layer_lem) in
    let size : (file_read bytes 0).size ≡ 64 = w.2 ∙ ap length b ∙ layer_size in
    (size, rw size at (w.3 ∙ b))

-- every field of both answers: each file has its length, its root, two path elements and the one layer
abbrev pub answer : ℕ → FileRead
answer size = record { number = 0; length = 16385; root = the_root; elements = 2; start = (file_read bytes 0).start; size = size }

pub twins_one : file_read bytes 0 ≡ answer 64
twins_one =
    let a = twins_first in
    file_of (file_read bytes 0) 16385 the_root 2 (file_read bytes 0).start 64 a.number a.size a.root a.elements refl twins_layer.0

pub twins_other : file_read bytes 1 ≡ answer 64
twins_other =
    let b = twins_second in
    let p = same_part bytes twins refl twins_valid twins_taken 1 0 second first at_second at_first refl refl in
    file_of (file_read bytes 1) 16385 the_root 2 (file_read bytes 0).start 64 b.number b.size b.root b.elements p.0 (p.1 ∙ twins_layer.0)

element_first : Nth first.path 0 (97 ∷ [])
unfolding Nth
element_first = refl

element_second : Nth second.path 0 (98 ∷ [])
unfolding Nth
element_second = refl

-- their paths begin with their folders
pub twins_folders : PartIs bytes (97 ∷ []) (path_read bytes 0 0) × PartIs bytes (98 ∷ []) (path_read bytes 1 0)
twins_folders = (
  element_is bytes twins refl twins_valid twins_taken 0 first at_first 0 (97 ∷ []) element_first,
  element_is bytes twins refl twins_valid twins_taken 1 second at_second 0 (98 ∷ []) element_second,
)

image_first : Nth first.path 1 name
unfolding Nth
image_first = refl

image_second : Nth second.path 1 name
unfolding Nth
image_second = refl

-- and end with `image`
pub twins_images : PartIs bytes name (path_read bytes 0 1) × PartIs bytes name (path_read bytes 1 1)
twins_images = (
  element_is bytes twins refl twins_valid twins_taken 0 first at_first 1 name image_first,
  element_is bytes twins refl twins_valid twins_taken 1 second at_second 1 name image_second,
)
