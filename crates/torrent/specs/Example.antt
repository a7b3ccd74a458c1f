-- A small torrent that gets 0, so that what is promised of such torrents is promised of something: an empty file `a`, and a file `b` of
-- one byte.
-- Assumes nothing.
use Rattle.std.specs.Prelude.{◌≡◌, refl, false, [], ◌∷◌, ◌≤◌, ◌-◌, length}
use Rattle.std.proofs.Common.{◌∙◌, arith}
use Rattle.meaning.specs.Keys.{key_length, key_pieces_root, key_info, key_file_tree, key_piece_length, key_meta_version, key_piece_layers}
use Rattle.limits.specs.Limits.{max_levels, largest_torrent}
use Rattle.octets.specs.Octets.{zero_hash, same}
use Rattle.numbers.specs.Numbers.{no_such_part}
use Rattle.tree.specs.Geometry.{is_piece_length, piece_layer, height, height_from, has_layer}
use Rattle.bencode.specs.Grammar.{Value, integer, string, dictionary, Entries, no_entries, entry, decimal_in, encode, precedes, Valid}
use Rattle.bencode.specs.Parts.{absent, lookup}
use Rattle.meaning.specs.Nth.{Nth}
use Rattle.meaning.specs.Torrent.{File, info_of, files_of, without, has_keys, element_right, file_right, node_right, branch_right, nodes_right, tree_right, files_of_node, files_of_entries, no_other_length, lengths_agree, layers_fit, no_others, layers_give_roots, value_number}
use Rattle.halves.specs.V1Keys.{key_pieces}
use Rattle.halves.proofs.HalvesLaws.{pure_stands}
use Rattle.torrent.specs.Torrent.{read_of, no_file_read, file_read, path_read}
use Rattle.torrent.specs.NumberMeans.{number_is_the_values, read_number_lem}
use Rattle.torrent.specs.Answers.{FileIs, PartIs}
use Rattle.torrent.specs.ReadMeans.{file_is, no_file, element_is}

-- a file, by an empty key alone
abbrev file : Entries → Value
file es = dictionary (entry [] (dictionary es) no_entries)

abbrev a : Value
a = file (entry key_length (integer false 0) no_entries)

abbrev b : Value
b = file (entry key_length (integer false 1) (entry key_pieces_root (string zero_hash) no_entries))

abbrev info : Entries
info =
    entry key_file_tree (dictionary (entry (97 ∷ []) a (entry (98 ∷ []) b no_entries)))
    (entry key_meta_version (integer false 2) (entry key_piece_length (integer false 16384) no_entries))

-- the torrent
abbrev pub small : Entries
small = entry key_info (dictionary info) (entry key_piece_layers (dictionary no_entries) no_entries)

-- it is valid
a_valid : Valid a (max_levels - 3)
unfolding Valid
a_valid = (refl, (refl, omega arith, tt), tt)

b_valid : Valid b (max_levels - 3)
unfolding Valid precedes
b_valid = (refl, (refl, omega arith, (refl, tt, tt)), tt)

pub small_valid : Valid (dictionary small) max_levels
unfolding Valid precedes
small_valid = (refl, (refl, (refl, a_valid, (refl, b_valid, tt)), (refl, omega arith, (refl, omega arith, tt))), (refl, tt, tt))

-- it is right
pub small_right : value_number small ≡ 0
unfolding value_number lookup same has_keys is_piece_length piece_layer height height_from tree_right branch_right node_right nodes_right element_right without file_right files_of_entries files_of_node lengths_agree no_other_length layers_fit has_layer no_others layers_give_roots zero_hash
small_right = refl

-- it is a pure v2 torrent
small_pure : lookup key_pieces (info_of small) ≡ absent
unfolding lookup same
small_pure = refl

-- it is small
pub small_size : length (encode (dictionary small)) ≤ largest_torrent
unfolding encode decimal_in zero_hash
small_size = omega arith

-- so it gets 0
pub small_taken : (read_of (encode (dictionary small))).number ≡ 0
small_taken = read_number_lem (encode (dictionary small)) ∙ number_is_the_values (encode (dictionary small)) small refl small_valid small_size ∙ pure_stands small small_pure ∙ small_right

-- ---- what is read of it

-- file 1 is `b`
abbrev file_b : File
file_b = record { size = 1; root = zero_hash; path = (98 ∷ []) ∷ [] }

second : Nth (files_of small) 1 file_b
unfolding Nth lookup same files_of_entries files_of_node
second = refl

-- file 1 has a byte, the root of zeros, one path element, and no layer
pub small_second : FileIs (encode (dictionary small)) small file_b (file_read (encode (dictionary small)) 1)
small_second = file_is (encode (dictionary small)) small refl small_valid small_taken 1 file_b second

-- its path is `b`
element : Nth file_b.path 0 (98 ∷ [])
unfolding Nth
element = refl

pub small_path : PartIs (encode (dictionary small)) (98 ∷ []) (path_read (encode (dictionary small)) 1 0)
small_path = element_is (encode (dictionary small)) small refl small_valid small_taken 1 file_b second 0 (98 ∷ []) element

-- there is no file 2
two : length (files_of small) ≤ 2
unfolding lookup same files_of_entries files_of_node
two = omega arith

pub small_no_third : file_read (encode (dictionary small)) 2 ≡ no_file_read no_such_part
small_no_third = no_file (encode (dictionary small)) small refl small_valid small_taken 2 two
