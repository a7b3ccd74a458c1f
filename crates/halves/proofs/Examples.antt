-- Small hybrids, and the number of each, by the definitions. The piece length is 16384.
-- Assumes nothing.
use Rattle.std.specs.Prelude.{◌≡◌, refl, false, List, [], ◌∷◌, ℕ, replicate}
use Rattle.octets.specs.Octets.{zero_hash, same}
use Rattle.tree.specs.Geometry.{is_piece_length, piece_layer, height, height_from, has_layer, piece_count, ceil_div}
use Rattle.bencode.specs.Grammar.{Value, integer, string, list, dictionary, Items, no_items, item, Entries, no_entries, entry}
use Rattle.bencode.specs.Parts.{lookup}
use Rattle.meaning.specs.Keys.{key_length, key_pieces_root, key_info, key_file_tree, key_piece_length, key_meta_version, key_piece_layers}
use Rattle.halves.specs.V1Keys.{key_pieces, key_files, key_path, key_attr}
use Rattle.meaning.specs.Torrent.{without, has_keys, element_right, file_right, node_right, branch_right, nodes_right, tree_right, files_of_node, files_of_entries, no_other_length, lengths_agree, layers_fit, no_others, layers_give_roots, value_number}
use Rattle.halves.specs.V1Half.{names_full, names_of, entry_fits, items_fit, entries_in, half_fits, v1_entries, total, same_path, files_among, same_files, on_boundary, halves_fit, torrent_number}

abbrev a : List ℕ
a = 97 ∷ []

abbrev b : List ℕ
b = 98 ∷ []

-- a file of n bytes with a root of zeros
abbrev file : ℕ → Value
file n = dictionary (entry [] (dictionary (entry key_length (integer false n) (entry key_pieces_root (string zero_hash) no_entries))) no_entries)

-- `a` and `b`, of 5 bytes each, with these entries of `files` and so many v1 pieces
abbrev hybrid : Items → ℕ → Entries
hybrid vs n =
    entry key_info
    (dictionary (entry key_file_tree (dictionary (entry a (file 5) (entry b (file 5) no_entries))) (entry key_files (list vs) (entry key_meta_version (integer false 2) (entry key_piece_length (integer false 16384) (entry key_pieces (string (replicate n 0)) no_entries))))))
    (entry key_piece_layers (dictionary no_entries) no_entries)

abbrev v1_file : ℕ → List ℕ → Value
v1_file n name = dictionary (entry key_length (integer false n) (entry key_path (list (item (string name) no_items)) no_entries))

-- `attr` is `p`, the path [`.pad`, `x`]
abbrev pad : ℕ → Value
pad n =
    dictionary (entry key_attr (string (112 ∷ [])) (entry key_length (integer false n) (entry key_path (list (item (string (46 ∷ 112 ∷ 97 ∷ 100 ∷ [])) (item (string (120 ∷ [])) no_items))) no_entries)))

-- padding between the files
pub padded : torrent_number (hybrid (item (v1_file 5 a) (item (pad 16379) (item (v1_file 5 b) no_items))) 40) ≡ 0
unfolding torrent_number value_number lookup same has_keys is_piece_length piece_layer height height_from tree_right branch_right node_right nodes_right element_right without file_right files_of_entries files_of_node lengths_agree no_other_length zero_hash layers_fit has_layer no_others layers_give_roots names_full names_of entry_fits items_fit entries_in half_fits v1_entries total same_path files_among same_files on_boundary halves_fit piece_count ceil_div
padded = refl

-- and behind the last one
pub padded_behind : torrent_number (hybrid (item (v1_file 5 a) (item (pad 16379) (item (v1_file 5 b) (item (pad 16379) no_items)))) 40) ≡ 0
unfolding torrent_number value_number lookup same has_keys is_piece_length piece_layer height height_from tree_right branch_right node_right nodes_right element_right without file_right files_of_entries files_of_node lengths_agree no_other_length zero_hash layers_fit has_layer no_others layers_give_roots names_full names_of entry_fits items_fit entries_in half_fits v1_entries total same_path files_among same_files on_boundary halves_fit piece_count ceil_div
padded_behind = refl

-- the second file not on a boundary
pub not_padded : torrent_number (hybrid (item (v1_file 5 a) (item (v1_file 5 b) no_items)) 20) ≡ 31
unfolding torrent_number value_number lookup same has_keys is_piece_length piece_layer height height_from tree_right branch_right node_right nodes_right element_right without file_right files_of_entries files_of_node lengths_agree no_other_length zero_hash layers_fit has_layer no_others layers_give_roots names_full names_of entry_fits items_fit entries_in half_fits v1_entries total same_path files_among same_files on_boundary halves_fit piece_count ceil_div
not_padded = refl

-- another order
pub other_order : torrent_number (hybrid (item (v1_file 5 b) (item (pad 16379) (item (v1_file 5 a) no_items))) 40) ≡ 31
unfolding torrent_number value_number lookup same has_keys is_piece_length piece_layer height height_from tree_right branch_right node_right nodes_right element_right without file_right files_of_entries files_of_node lengths_agree no_other_length zero_hash layers_fit has_layer no_others layers_give_roots names_full names_of entry_fits items_fit entries_in half_fits v1_entries total same_path files_among same_files on_boundary halves_fit piece_count ceil_div
other_order = refl

-- one v1 piece too few
pub piece_lacking : torrent_number (hybrid (item (v1_file 5 a) (item (pad 16379) (item (v1_file 5 b) no_items))) 20) ≡ 31
unfolding torrent_number value_number lookup same has_keys is_piece_length piece_layer height height_from tree_right branch_right node_right nodes_right element_right without file_right files_of_entries files_of_node lengths_agree no_other_length zero_hash layers_fit has_layer no_others layers_give_roots names_full names_of entry_fits items_fit entries_in half_fits v1_entries total same_path files_among same_files on_boundary halves_fit piece_count ceil_div
piece_lacking = refl
