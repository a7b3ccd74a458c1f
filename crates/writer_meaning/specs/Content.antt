-- 02, request 4: what a list says, wherever it stands, and the torrent that is written of it.
-- Assumes nothing.
use Rattle.std.specs.Prelude.{Bool, true, false, cond, List, [], ◌∷◌, ℕ, eqb}
use Rattle.octets.specs.Octets.{same}
use Rattle.bencode.specs.Grammar.{Value, integer, string, list, dictionary, Entries, no_entries, entry, precedes}
use Rattle.meaning.specs.Keys.{key_info, key_file_tree, key_piece_length, key_meta_version, key_piece_layers, key_length, key_pieces_root}
use Rattle.sorting.specs.SortedBy.{sorted_by}

-- one file of the list
pub record Item : Type 0 where
  pub path : List (List ℕ)
  pub size : ℕ
  pub root : List ℕ
  pub layer : List ℕ

-- tree order goes by element: `a/b` stands before `a.txt`
unfoldable pub path_before : List (List ℕ) → List (List ℕ) → Bool
path_before [] [] = false
path_before [] (f ∷ q) = true
path_before (e ∷ p) [] = false
path_before (e ∷ p) (f ∷ q) = cond (same e f) (path_before p q) (precedes e f)

abbrev pub item_before : Item → Item → Bool
item_before x y = path_before x.path y.path

abbrev pub in_tree_order : List Item → List Item
in_tree_order = sorted_by item_before

-- ---- the file tree

-- the value of a file's empty key
abbrev pub properties : Item → Value
properties x =
    cond (eqb x.size 0)
    (dictionary (entry key_length (integer false x.size) no_entries))
    (dictionary (entry key_length (integer false x.size) (entry key_pieces_root (string x.root) no_entries)))

-- a tree with a file put before all that it has: below its first node if the path leads there, else below a node of its own
unfoldable pub grown : List (List ℕ) → Value → Entries → Entries
grown [] v es = entry [] v es
grown (e ∷ p) v no_entries = entry e (dictionary (grown p v no_entries)) no_entries
grown (e ∷ p) v (entry k (dictionary ds) es) =
    cond (same e k) (entry k (dictionary (grown p v ds)) es) (entry e (dictionary (grown p v no_entries)) (entry k (dictionary ds) es))
grown (e ∷ p) v (entry k (integer minus n) es) = entry e (dictionary (grown p v no_entries)) (entry k (integer minus n) es)
grown (e ∷ p) v (entry k (string b) es) = entry e (dictionary (grown p v no_entries)) (entry k (string b) es)
grown (e ∷ p) v (entry k (list vs) es) = entry e (dictionary (grown p v no_entries)) (entry k (list vs) es)

-- the tree of files that stand in tree order
unfoldable pub tree_of_all : List Item → Entries
tree_of_all [] = no_entries
tree_of_all (x ∷ xs) = grown x.path (properties x) (tree_of_all xs)

-- ---- the piece layers

-- a root with its layer
abbrev pub Layer : Type 0
Layer = List ℕ × List ℕ

abbrev pub layer_before : Layer → Layer → Bool
layer_before l m = cond (same l.0 m.0) (precedes l.1 m.1) (precedes l.0 m.0)

-- a file without a layer has none to write
abbrev pub with_layer : Item → List ℕ → List Layer → List Layer
with_layer x [] ls = ls
with_layer x (b ∷ bs) ls = (x.root, b ∷ bs) ∷ ls

unfoldable pub layers_given : List Item → List Layer
layers_given [] = []
layers_given (x ∷ xs) = with_layer x x.layer (layers_given xs)

-- a layer put before those of higher roots; of one root's layers the least stays
unfoldable pub layer_put : Layer → Entries → Entries
layer_put l no_entries = entry l.0 (string l.1) no_entries
layer_put l (entry k v es) = cond (same l.0 k) (entry k (string l.1) es) (entry l.0 (string l.1) (entry k v es))

unfoldable pub layers_of_all : List Layer → Entries
layers_of_all [] = no_entries
layers_of_all (l ∷ ls) = layer_put l (layers_of_all ls)

-- ---- the torrent

-- `name`
abbrev pub key_name : List ℕ
key_name = 110 ∷ 97 ∷ 109 ∷ 101 ∷ []

abbrev pub info_written : ℕ → List ℕ → Entries → Entries
info_written plen name tree =
    entry key_file_tree (dictionary tree)
    (entry key_meta_version (integer false 2)
    (entry key_name (string name)
    (entry key_piece_length (integer false plen) no_entries)))

-- what is written of a list; it has a value for every list, also for one that is refused
unfoldable pub torrent_of : ℕ → List ℕ → List Item → Entries
torrent_of plen name xs =
    entry key_info (dictionary (info_written plen name (tree_of_all (in_tree_order xs))))
    (entry key_piece_layers (dictionary (layers_of_all (sorted_by layer_before (layers_given xs)))) no_entries)
