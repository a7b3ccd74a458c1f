-- 01, "The torrent": what the numbers 22 to 28 mean of the value that a torrent encodes, and what is read from it.
-- Assumes nothing.
use Rattle.std.specs.Prelude.{Bool, true, false, cond, ◌&&◌, ◌||◌, not, List, [], ◌∷◌, ◌++◌, ℕ, ◌*◌, length, eqb, leb}
use Rattle.limits.specs.Limits.{longest_file}
use Rattle.meaning.specs.Keys.{key_length, key_pieces_root, key_info, key_file_tree, key_piece_length, key_meta_version, key_piece_layers}
use Rattle.octets.specs.Octets.{same, zero_hash}
use Rattle.numbers.specs.Numbers.{key_missing, other_version, piece_length_out_of_range, wrong_tree, two_lengths, layers_amiss, layer_differs}
use Rattle.tree.specs.Geometry.{block_count, height, is_piece_length, piece_layer, piece_count, has_layer}
use Rattle.tree.specs.Values.{layer_root}
use Rattle.bencode.specs.Grammar.{Value, integer, string, list, dictionary, Entries, no_entries, entry}
use Rattle.bencode.specs.Parts.{Lookup, absent, present, lookup}

-- ---- 22: the five keys, each of its type

abbrev pub has_dictionary : Lookup → Bool
has_dictionary absent = false
has_dictionary (present (dictionary es)) = true
has_dictionary (present (integer minus n)) = false
has_dictionary (present (string b)) = false
has_dictionary (present (list vs)) = false

abbrev pub has_integer : Lookup → Bool
has_integer absent = false
has_integer (present (integer minus n)) = true
has_integer (present (dictionary es)) = false
has_integer (present (string b)) = false
has_integer (present (list vs)) = false

-- what is found, or nothing where it is of another type
abbrev pub entries_of : Lookup → Entries
entries_of (present (dictionary es)) = es
entries_of absent = no_entries
entries_of (present (integer minus n)) = no_entries
entries_of (present (string b)) = no_entries
entries_of (present (list vs)) = no_entries

-- whether it is the integer n, or one from 0 to a limit; a negative one is neither
abbrev pub is_number : ℕ → Lookup → Bool
is_number m (present (integer false n)) = eqb n m
is_number m (present (integer true n)) = false
is_number m absent = false
is_number m (present (dictionary es)) = false
is_number m (present (string b)) = false
is_number m (present (list vs)) = false

abbrev pub number_of : Lookup → ℕ
number_of (present (integer false n)) = n
number_of (present (integer true n)) = 0
number_of absent = 0
number_of (present (dictionary es)) = 0
number_of (present (string b)) = 0
number_of (present (list vs)) = 0

abbrev pub is_natural : Lookup → Bool
is_natural (present (integer minus n)) = not minus
is_natural absent = false
is_natural (present (dictionary es)) = false
is_natural (present (string b)) = false
is_natural (present (list vs)) = false

abbrev pub info_of : Entries → Entries
info_of torrent = entries_of (lookup key_info torrent)

abbrev pub tree_of : Entries → Entries
tree_of torrent = entries_of (lookup key_file_tree (info_of torrent))

unfoldable pub has_keys : Entries → Bool
has_keys torrent =
    has_dictionary (lookup key_info torrent)
    && has_dictionary (lookup key_file_tree (info_of torrent))
    && has_integer (lookup key_piece_length (info_of torrent))
    && has_integer (lookup key_meta_version (info_of torrent))
    && has_dictionary (lookup key_piece_layers torrent)

-- ---- 25: the file tree

-- a non-empty file has a root of 32 bytes, an empty one has none
abbrev pub root_right : Bool → Lookup → Bool
root_right true absent = true
root_right true (present v) = false
root_right false (present (string r)) = eqb (length r) 32
root_right false absent = false
root_right false (present (integer minus n)) = false
root_right false (present (list vs)) = false
root_right false (present (dictionary es)) = false

-- the value of an empty key
unfoldable pub file_right : Value → Bool
file_right (dictionary es) =
    is_natural (lookup key_length es) && leb (number_of (lookup key_length es)) longest_file
    && root_right (eqb (number_of (lookup key_length es)) 0) (lookup key_pieces_root es)
file_right (integer minus n) = false
file_right (string b) = false
file_right (list vs) = false

-- whether none of the bytes is b
unfoldable pub without : ℕ → List ℕ → Bool
without b [] = true
without b (c ∷ cs) = not (eqb c b) && without b cs

-- `.` and `..`
abbrev pub dot : List ℕ
dot = 46 ∷ []

abbrev pub dots : List ℕ
dots = 46 ∷ 46 ∷ []

-- `/`
abbrev pub slash : ℕ
slash = 47

-- 02, request 5: a path element, of files and directories alike, is not empty, not `.` or `..`, and has no `/` and no zero byte
unfoldable pub element_right : List ℕ → Bool
element_right [] = false
element_right (c ∷ cs) = not (same (c ∷ cs) dot) && not (same (c ∷ cs) dots) && without slash (c ∷ cs) && without 0 (c ∷ cs)

abbrev pub no_more : Entries → Bool
no_more no_entries = true
no_more (entry k v es) = false

-- a node is a dictionary: a file, by an empty key alone, or a directory that is not empty
unfoldable mutual
  pub node_right : Value → Bool
  node_right (dictionary es) = branch_right es
  node_right (integer minus n) = false
  node_right (string b) = false
  node_right (list vs) = false

  pub branch_right : Entries → Bool
  branch_right no_entries = false
  branch_right (entry [] v es) = no_more es && file_right v
  branch_right (entry (c ∷ cs) v es) = element_right (c ∷ cs) && (node_right v && nodes_right es)

  pub nodes_right : Entries → Bool
  nodes_right no_entries = true
  nodes_right (entry k v es) = element_right k && (node_right v && nodes_right es)

-- `file tree` itself is a directory
unfoldable pub tree_right : Entries → Bool
tree_right no_entries = false
tree_right (entry k v es) = nodes_right (entry k v es)

-- ---- the files in tree order

pub record File : Type 0 where
  pub size : ℕ
  pub root : List ℕ
  pub path : List (List ℕ)

abbrev pub root_string : Lookup → List ℕ
root_string (present (string r)) = r
root_string absent = zero_hash
root_string (present (integer minus n)) = zero_hash
root_string (present (list vs)) = zero_hash
root_string (present (dictionary es)) = zero_hash

abbrev pub file_value : List (List ℕ) → Entries → File
file_value path es = record { size = number_of (lookup key_length es); root = root_string (lookup key_pieces_root es); path = path }

unfoldable mutual
  pub files_of_node : List (List ℕ) → Value → List File
  files_of_node path (dictionary es) = files_of_entries path es
  files_of_node path (integer minus n) = []
  files_of_node path (string b) = []
  files_of_node path (list vs) = []

  -- an empty key is no path element
  pub files_of_entries : List (List ℕ) → Entries → List File
  files_of_entries path no_entries = []
  files_of_entries path (entry [] v es) = file_value path (entries_of (present v)) ∷ []
  files_of_entries path (entry (c ∷ cs) v es) = files_of_node (path ++ ((c ∷ cs) ∷ [])) v ++ files_of_entries path es

abbrev pub files_of : Entries → List File
files_of torrent = files_of_entries [] (tree_of torrent)

-- ---- 26: non-empty files with one root have one length

unfoldable pub no_other_length : List ℕ → ℕ → List File → Bool
no_other_length root n [] = true
no_other_length root n (f ∷ fs) = not (not (eqb f.size 0) && same root f.root && not (eqb n f.size)) && no_other_length root n fs

unfoldable pub lengths_agree : List File → Bool
lengths_agree [] = true
lengths_agree (f ∷ fs) = (eqb f.size 0 || no_other_length f.root f.size fs) && lengths_agree fs

-- ---- 27: a layer for each file longer than the piece length, 32 bytes for each piece, and no others

abbrev pub layer_fits : ℕ → File → Lookup → Bool
layer_fits plen f (present (string layer)) = eqb (length layer) (32 * piece_count f.size plen)
layer_fits plen f absent = false
layer_fits plen f (present (integer minus n)) = false
layer_fits plen f (present (list vs)) = false
layer_fits plen f (present (dictionary es)) = false

unfoldable pub layers_fit : ℕ → Entries → List File → Bool
layers_fit plen layers [] = true
layers_fit plen layers (f ∷ fs) = (not (has_layer f.size plen) || layer_fits plen f (lookup f.root layers)) && layers_fit plen layers fs

unfoldable pub some_longer : ℕ → List ℕ → List File → Bool
some_longer plen root [] = false
some_longer plen root (f ∷ fs) = (has_layer f.size plen && same root f.root) || some_longer plen root fs

unfoldable pub no_others : ℕ → List File → Entries → Bool
no_others plen fs no_entries = true
no_others plen fs (entry root v es) = some_longer plen root fs && no_others plen fs es

-- ---- 28: each layer gives its root

abbrev pub layer_bytes : Lookup → List ℕ
layer_bytes (present (string b)) = b
layer_bytes absent = []
layer_bytes (present (integer minus n)) = []
layer_bytes (present (list vs)) = []
layer_bytes (present (dictionary es)) = []

abbrev pub gives_root : ℕ → File → List ℕ → Bool
gives_root plen f layer = same (layer_root layer (piece_layer plen) (height (block_count f.size))) f.root

unfoldable pub layers_give_roots : ℕ → Entries → List File → Bool
layers_give_roots plen layers [] = true
layers_give_roots plen layers (f ∷ fs) =
    (not (has_layer f.size plen) || gives_root plen f (layer_bytes (lookup f.root layers))) && layers_give_roots plen layers fs

-- ---- the number, the lowest

abbrev pub plen_of : Entries → ℕ
plen_of torrent = number_of (lookup key_piece_length (info_of torrent))

abbrev pub layers_of : Entries → Entries
layers_of torrent = entries_of (lookup key_piece_layers torrent)

-- with any rule for the file tree
abbrev pub number_by : (Entries → Bool) → Entries → ℕ
number_by tree torrent =
    cond (has_keys torrent)
    (cond (is_number 2 (lookup key_meta_version (info_of torrent)))
    (cond (is_piece_length (plen_of torrent))
    (cond (tree (tree_of torrent))
    (cond (lengths_agree (files_of torrent))
    (cond (layers_fit (plen_of torrent) (layers_of torrent) (files_of torrent) && no_others (plen_of torrent) (files_of torrent) (layers_of torrent))
    (cond (layers_give_roots (plen_of torrent) (layers_of torrent) (files_of torrent))
    0
    layer_differs)
    layers_amiss)
    two_lengths)
    wrong_tree)
    piece_length_out_of_range)
    other_version)
    key_missing

unfoldable pub value_number : Entries → ℕ
value_number torrent = number_by tree_right torrent
