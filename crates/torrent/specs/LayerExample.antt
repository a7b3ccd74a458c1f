-- A torrent with a piece layer that gets 0: one file of 16385 bytes in pieces of 16384, so of two pieces, whose hashes are both zeros. Its
-- root is what the layer gives; no hash is worked out here, only that it has 32 bytes.
-- Assumes nothing.
use Rattle.std.specs.Prelude.{◌≡◌, Bool, true, false, ◌&&◌, ◌||◌, List, [], ◌∷◌, ◌++◌, ℕ, ◌<◌, length}
use Rattle.std.proofs.Math.Path.{refl, ap}
use Rattle.std.proofs.Common.{sym, ◌∙◌, length-append, eq-eqb, arith}
use Rattle.std.proofs.Math.Bool.{cond}
use Rattle.meaning.specs.Keys.{key_length, key_pieces_root, key_info, key_file_tree, key_piece_length, key_meta_version, key_piece_layers}
use Rattle.limits.specs.Limits.{max_levels}
use Rattle.octets.specs.Octets.{cut, zero_hash, same}
use Rattle.octets.specs.OctetsLaws.{same_refl}
use Rattle.sha256.specs.Sha256Laws.{pair_octets}
use Rattle.tree.specs.Geometry.{block_count, ceil_div, is_piece_length, piece_layer, piece_count, height, height_from, has_layer}
use Rattle.tree.specs.Values.{node, layer_leaf, layer_root}
use Rattle.bencode.specs.Grammar.{colon, integer, string, dictionary, Entries, no_entries, entry, decimal_in, decimal, encode_string, encode, encode_entries, precedes, Valid}
use Rattle.bencode.specs.PartsLaws.{entries_length, one_string}
use Rattle.bencode.specs.Parts.{Lookup, present, absent, lookup}
use Rattle.bencode.specs.CompleteLaws.{dictionary_length}
use Rattle.meaning.specs.Nth.{Nth}
use Rattle.meaning.specs.Torrent.{File, is_number, info_of, tree_of, files_of, plen_of, layers_of, without, has_keys, element_right, file_right, node_right, branch_right, nodes_right, tree_right, files_of_node, files_of_entries, no_other_length, lengths_agree, layer_fits, layers_fit, some_longer, no_others, gives_root, layer_bytes, layers_give_roots, value_number}
use Rattle.halves.specs.V1Keys.{key_pieces}
use Rattle.halves.specs.V1Half.{torrent_number}
use Rattle.halves.proofs.HalvesLaws.{pure_stands}
use Rattle.torrent.specs.Torrent.{read_of, file_read}
use Rattle.torrent.specs.NumberMeans.{number_is_the_values, read_number_lem}
use Rattle.torrent.specs.Answers.{FileIs}
use Rattle.torrent.specs.ReadMeans.{file_is}

-- ---- a pure v2 torrent gets 0 where all seven tests of its value pass

seven_pass : (es : Entries) → has_keys es ≡ true → is_number 2 (lookup key_meta_version (info_of es)) ≡ true → is_piece_length (plen_of es) ≡ true
    → tree_right (tree_of es) ≡ true → lengths_agree (files_of es) ≡ true → layers_fit (plen_of es) (layers_of es) (files_of es) ≡ true
    → no_others (plen_of es) (files_of es) (layers_of es) ≡ true → layers_give_roots (plen_of es) (layers_of es) (files_of es) ≡ true → value_number es ≡ 0
unfolding value_number
seven_pass es a b c d e f g h = rw (a, b, c, d, e, f, g, h) refl

pub all_pass : (es : Entries) → lookup key_pieces (info_of es) ≡ absent → has_keys es ≡ true → is_number 2 (lookup key_meta_version (info_of es)) ≡ true → is_piece_length (plen_of es) ≡ true
    → tree_right (tree_of es) ≡ true → lengths_agree (files_of es) ≡ true → layers_fit (plen_of es) (layers_of es) (files_of es) ≡ true
    → no_others (plen_of es) (files_of es) (layers_of es) ≡ true → layers_give_roots (plen_of es) (layers_of es) (files_of es) ≡ true → torrent_number es ≡ 0
all_pass es pure a b c d e f g h = pure_stands es pure ∙ seven_pass es a b c d e f g h

-- ---- with any root

-- the two hashes of the layer
abbrev pub layer : List ℕ
layer = zero_hash ++ zero_hash

module _ (root : List ℕ) where
  abbrev tree : Entries
  tree = entry (99 ∷ []) (dictionary (entry [] (dictionary (entry key_length (integer false 16385) (entry key_pieces_root (string root) no_entries))) no_entries)) no_entries

  abbrev info : Entries
  info = entry key_file_tree (dictionary tree) (entry key_meta_version (integer false 2) (entry key_piece_length (integer false 16384) no_entries))

  abbrev layers : Entries
  layers = entry root (string layer) no_entries

  abbrev with_root : Entries
  with_root = entry key_info (dictionary info) (entry key_piece_layers (dictionary layers) no_entries)

  -- its one file
  abbrev the_file : File
  the_file = record { size = 16385; root = root; path = (99 ∷ []) ∷ [] }

  -- it is valid
  with_valid : Valid (dictionary with_root) max_levels
  unfolding Valid precedes
  with_valid = (refl, (refl, (refl, (refl, (refl, omega arith, (refl, tt, tt)), tt), tt), (refl, omega arith, (refl, omega arith, tt))), (refl, (refl, tt, tt), tt))

  -- its piece layers
  the_layers : layers_of with_root ≡ layers
  unfolding lookup same
  the_layers = refl

  -- and passes the tests, one after the other
  keys_right : has_keys with_root ≡ true
  unfolding lookup same has_keys
  keys_right = refl

  version_right : is_number 2 (lookup key_meta_version (info_of with_root)) ≡ true
  unfolding lookup same
  version_right = refl

  piece_right : is_piece_length (plen_of with_root) ≡ true
  unfolding lookup same is_piece_length piece_layer height height_from
  piece_right = refl

  tree_right_lem : length root ≡ 32 → tree_right (tree_of with_root) ≡ true
  unfolding lookup same tree_right branch_right node_right nodes_right element_right without file_right
  tree_right_lem e = ap (λ (t : Bool). t && true) (eq-eqb (length root) 32 e)

  lengths_right : lengths_agree (files_of with_root) ≡ true
  unfolding lookup same files_of_entries files_of_node lengths_agree no_other_length
  lengths_right = refl

  -- the root is the one key
  the_key : lookup root layers ≡ present (string layer)
  unfolding lookup
  the_key = ap (λ (t : Bool). cond t (present (string layer)) absent) (same_refl root)

  -- 32 bytes for each of two pieces
  two_pieces : layer_fits 16384 the_file (present (string layer)) ≡ true
  unfolding zero_hash piece_count ceil_div
  two_pieces = refl

  fit_right : layers_fit (plen_of with_root) (layers_of with_root) (files_of with_root) ≡ true
  unfolding lookup same files_of_entries files_of_node layers_fit has_layer
  fit_right = ap (λ (t : Bool). t && true) (ap (layer_fits 16384 the_file) the_key ∙ two_pieces)

  others_right : no_others (plen_of with_root) (files_of with_root) (layers_of with_root) ≡ true
  unfolding lookup same files_of_entries files_of_node no_others some_longer has_layer
  others_right = ap (λ (t : Bool). (t || false) && true) (same_refl root)

  -- the layer gives the root
  gives : layer_root layer 0 1 ≡ root → gives_root 16384 the_file layer ≡ true
  unfolding piece_layer height height_from block_count ceil_div
  gives e = rw e (same_refl root)

  gives_right : layer_root layer 0 1 ≡ root → layers_give_roots (plen_of with_root) (layers_of with_root) (files_of with_root) ≡ true
  unfolding lookup same files_of_entries files_of_node layers_give_roots has_layer
  gives_right e = ap (λ (t : Bool). t && true) (ap (λ (x : Lookup). gives_root 16384 the_file (layer_bytes x)) the_key ∙ gives e)

  -- it has no v1 half
  with_pure : lookup key_pieces (info_of with_root) ≡ absent
  unfolding lookup same
  with_pure = refl

  -- all tests pass
  with_right : length root ≡ 32 → layer_root layer 0 1 ≡ root → torrent_number with_root ≡ 0
  with_right l e = all_pass with_root with_pure keys_right version_right piece_right (tree_right_lem l) lengths_right fit_right others_right (gives_right e)

-- ---- its size

-- a string of 32 bytes takes 35
pub string_size : (b : List ℕ) → length b ≡ 32 → length (encode_string b) ≡ 35
unfolding decimal_in
string_size b e = let la = length-append (decimal (length b)) (colon ∷ b) in let d : length (decimal (length b)) ≡ 2 = rw e refl in omega arith

pub value_size : (b : List ℕ) → length b ≡ 32 → length (encode (string b)) ≡ 35
unfolding encode
value_size b e = string_size b e

-- what does not depend on the root
abbrev pub after_tree : Entries
after_tree = entry key_meta_version (integer false 2) (entry key_piece_length (integer false 16384) no_entries)

fixed_sizes : (length (encode_string key_info) ≡ 6) × (length (encode_string key_piece_layers) ≡ 15) × (length (encode_string key_file_tree) ≡ 11) × (length (encode_string (99 ∷ [])) ≡ 3)
    × (length (encode_string []) ≡ 2) × (length (encode_string key_length) ≡ 8) × (length (encode_string key_pieces_root) ≡ 14) × (length (encode (integer false 16385)) ≡ 7)
    × (length (encode (string layer)) ≡ 67) × (length (encode_entries after_tree) ≡ 41) × (length (encode_entries no_entries) ≡ 1)
unfolding encode decimal_in zero_hash
fixed_sizes = (refl, refl, refl, refl, refl, refl, refl, refl, refl, refl, refl)

-- the torrent has 255 bytes
with_size : (root : List ℕ) → length root ≡ 32 → length (encode (dictionary (with_root root))) ≡ 255
with_size root e =
    let leaf : Entries = entry key_length (integer false 16385) (entry key_pieces_root (string root) no_entries) in
    let node : Entries = entry [] (dictionary leaf) no_entries in
    let layers_entry : Entries = entry key_piece_layers (dictionary (layers root)) no_entries in
    let in_leaf = entries_length key_length (integer false 16385) (entry key_pieces_root (string root) no_entries) in
    let in_root = entries_length key_pieces_root (string root) no_entries in
    let in_node = entries_length [] (dictionary leaf) no_entries in
    let in_tree = entries_length (99 ∷ []) (dictionary node) no_entries in
    let in_info = entries_length key_file_tree (dictionary (tree root)) after_tree in
    let in_layers = entries_length root (string layer) no_entries in
    let in_last = entries_length key_piece_layers (dictionary (layers root)) no_entries in
    let in_torrent = entries_length key_info (dictionary (info root)) layers_entry in
    omega (
      arith,
      fixed_sizes,
      string_size root e,
      value_size root e,
      dictionary_length leaf,
      dictionary_length node,
      dictionary_length (tree root),
      dictionary_length (info root),
      dictionary_length (layers root),
      dictionary_length (with_root root),
    )

-- ---- the torrent

-- the root that the layer gives
abbrev pub the_root : List ℕ
the_root = layer_root layer 0 1

pub root_size : length the_root ≡ 32
unfolding layer_root node
root_size = (pair_octets (node (layer_leaf layer 0) 0 0) (node (layer_leaf layer 0) 0 1)).size

-- the torrent with that root, and its one file
abbrev pub long : Entries
long = with_root the_root

abbrev pub long_file : File
long_file = the_file the_root

-- it is valid
pub long_valid : Valid (dictionary long) max_levels
long_valid = with_valid the_root

-- it gets 0
pub long_taken : (read_of (encode (dictionary long))).number ≡ 0
long_taken =
    read_number_lem (encode (dictionary long))
    ∙ number_is_the_values (encode (dictionary long)) long refl long_valid (let n = with_size the_root root_size in omega arith)
    ∙ with_right the_root root_size refl

the_first : Nth (files_of long) 0 long_file
unfolding Nth lookup same files_of_entries files_of_node
the_first = refl

-- and its file is answered with the layer that `piece layers` has for its root
pub long_first : FileIs (encode (dictionary long)) long long_file (file_read (encode (dictionary long)) 0)
long_first = file_is (encode (dictionary long)) long refl long_valid long_taken 0 long_file the_first

-- it is longer than a piece
longer : plen_of long < long_file.size
unfolding lookup same
longer = omega arith

-- `piece layers` has the 64 bytes for it
has_layer_lem : lookup long_file.root (layers_of long) ≡ present (string layer)
has_layer_lem = ap (lookup the_root) (the_layers the_root) ∙ the_key the_root

pub layer_size : length layer ≡ 64
unfolding zero_hash
layer_size = refl

-- so these 64 bytes are what is answered
pub long_layer : ((file_read (encode (dictionary long)) 0).size ≡ 64) × (cut (encode (dictionary long)) (file_read (encode (dictionary long)) 0).start (file_read (encode (dictionary long)) 0).size ≡ zero_hash ++ zero_hash)
long_layer =
    let w = long_first.layer longer in
    let b : w.0 ≡ layer = one_string w.0 layer (sym w.1 ∙ has_layer_lem) in
    (w.2 ∙ ap length b ∙ layer_size, w.3 ∙ b)
