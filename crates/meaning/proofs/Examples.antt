-- Small torrents, and the number of each, by the definitions.
-- Assumes nothing.
use Rattle.std.specs.Prelude.{◌≡◌, refl, false, List, [], ◌∷◌, ℕ}
use Rattle.meaning.specs.Keys.{key_length, key_pieces_root, key_info, key_file_tree, key_piece_length, key_meta_version, key_piece_layers}
use Rattle.octets.specs.Octets.{zero_hash, same}
use Rattle.tree.specs.Geometry.{is_piece_length, piece_layer, height, height_from, has_layer}
use Rattle.bencode.specs.Grammar.{Value, integer, string, dictionary, Entries, no_entries, entry}
use Rattle.bencode.specs.Parts.{lookup}
use Rattle.meaning.specs.Torrent.{without, has_keys, element_right, file_right, node_right, branch_right, nodes_right, tree_right, files_of_node, files_of_entries, no_other_length, lengths_agree, layers_fit, some_longer, no_others, layers_give_roots, value_number}

-- a torrent of these parts
abbrev torrent : ℕ → ℕ → Entries → Entries → Entries
torrent version plen tree layers =
    entry key_info (dictionary (entry key_file_tree (dictionary tree) (entry key_meta_version (integer false version) (entry key_piece_length (integer false plen) no_entries))))
    (entry key_piece_layers (dictionary layers) no_entries)

-- a file of n bytes with a root of zeros
abbrev file : ℕ → Value
file n = dictionary (entry [] (dictionary (entry key_length (integer false n) (entry key_pieces_root (string zero_hash) no_entries))) no_entries)

abbrev empty_file : Value
empty_file = dictionary (entry [] (dictionary (entry key_length (integer false 0) no_entries)) no_entries)

abbrev a : List ℕ
a = 97 ∷ []

abbrev b : List ℕ
b = 98 ∷ []

pub empty_file_lem : value_number (torrent 2 16384 (entry a empty_file no_entries) no_entries) ≡ 0
unfolding value_number lookup same has_keys is_piece_length piece_layer height height_from tree_right branch_right node_right nodes_right element_right without file_right files_of_entries files_of_node lengths_agree layers_fit has_layer no_others layers_give_roots zero_hash
empty_file_lem = refl

pub no_tree : value_number (entry key_piece_layers (dictionary no_entries) no_entries) ≡ 22
unfolding value_number lookup same has_keys
no_tree = refl

pub version_1 : value_number (torrent 1 16384 (entry a empty_file no_entries) no_entries) ≡ 23
unfolding value_number lookup same has_keys
version_1 = refl

pub piece_of_1000 : value_number (torrent 2 1000 (entry a empty_file no_entries) no_entries) ≡ 24
unfolding value_number lookup same has_keys is_piece_length piece_layer height height_from
piece_of_1000 = refl

pub empty_directory : value_number (torrent 2 16384 (entry a (dictionary no_entries) no_entries) no_entries) ≡ 25
unfolding value_number lookup same has_keys is_piece_length piece_layer height height_from tree_right branch_right node_right nodes_right element_right without file_right
empty_directory = refl

pub one_root_two_lengths : value_number (torrent 2 16384 (entry a (file 1) (entry b (file 2) no_entries)) no_entries) ≡ 26
unfolding value_number lookup same has_keys is_piece_length piece_layer height height_from tree_right branch_right node_right nodes_right element_right without file_right files_of_entries files_of_node lengths_agree no_other_length zero_hash
one_root_two_lengths = refl

pub twins : value_number (torrent 2 16384 (entry a (file 1) (entry b (file 1) no_entries)) no_entries) ≡ 0
unfolding value_number lookup same has_keys is_piece_length piece_layer height height_from tree_right branch_right node_right nodes_right element_right without file_right files_of_entries files_of_node lengths_agree no_other_length zero_hash layers_fit has_layer no_others layers_give_roots
twins = refl

pub layer_lacking : value_number (torrent 2 16384 (entry a (file 16385) no_entries) no_entries) ≡ 27
unfolding value_number lookup same has_keys is_piece_length piece_layer height height_from tree_right branch_right node_right nodes_right element_right without file_right files_of_entries files_of_node lengths_agree no_other_length layers_fit has_layer no_others zero_hash
layer_lacking = refl

pub layer_too_many : value_number (torrent 2 16384 (entry a (file 1) no_entries) (entry zero_hash (string zero_hash) no_entries)) ≡ 27
unfolding value_number lookup same has_keys is_piece_length piece_layer height height_from tree_right branch_right node_right nodes_right element_right without file_right files_of_entries files_of_node lengths_agree no_other_length layers_fit has_layer no_others some_longer zero_hash
layer_too_many = refl
