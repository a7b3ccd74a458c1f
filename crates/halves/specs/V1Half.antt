-- 02, request 12: the v1 half of a hybrid (BEP 3, with the padding files of BEP 47), read from the value that a torrent encodes; whether it
-- is well formed and fits the v2 half; and the number, with 31 behind 28.
-- Assumes nothing.
use Rattle.std.specs.Prelude.{Bool, true, false, cond, ◌&&◌, ◌||◌, not, List, [], ◌∷◌, ℕ, ◌+◌, ◌*◌, ◌%◌, length, eqb}
use Rattle.octets.specs.Octets.{same}
use Rattle.numbers.specs.Numbers.{halves_differ}
use Rattle.tree.specs.Geometry.{piece_count}
use Rattle.bencode.specs.Grammar.{Value, integer, string, list, dictionary, Items, no_items, item, Entries, no_entries}
use Rattle.bencode.specs.Parts.{Lookup, absent, present, lookup}
use Rattle.meaning.specs.Keys.{key_length}
use Rattle.halves.specs.V1Keys.{key_pieces, key_files, key_name, key_path, key_attr}
use Rattle.meaning.specs.Torrent.{is_natural, number_of, info_of, plen_of, without, File, files_of, value_number}

-- ---- one entry of `files`

-- an entry, a file or padding: its length and its path
pub record V1Entry : Type 0 where
  pub padding : Bool
  pub size : ℕ
  pub path : List (List ℕ)

abbrev pub is_there : Lookup → Bool
is_there absent = false
is_there (present v) = true

abbrev pub has_string : Lookup → Bool
has_string (present (string b)) = true
has_string absent = false
has_string (present (integer minus n)) = false
has_string (present (list vs)) = false
has_string (present (dictionary es)) = false

abbrev pub bytes_of : Lookup → List ℕ
bytes_of (present (string b)) = b
bytes_of absent = []
bytes_of (present (integer minus n)) = []
bytes_of (present (list vs)) = []
bytes_of (present (dictionary es)) = []

abbrev pub is_full : List ℕ → Bool
is_full [] = false
is_full (c ∷ cs) = true

-- strings, none of them empty
unfoldable pub names_full : Items → Bool
names_full no_items = true
names_full (item (string b) vs) = is_full b && names_full vs
names_full (item (integer minus n) vs) = false
names_full (item (list ws) vs) = false
names_full (item (dictionary es) vs) = false

unfoldable pub names_of : Items → List (List ℕ)
names_of no_items = []
names_of (item (string b) vs) = b ∷ names_of vs
names_of (item (integer minus n) vs) = [] ∷ names_of vs
names_of (item (list ws) vs) = [] ∷ names_of vs
names_of (item (dictionary es) vs) = [] ∷ names_of vs

-- `path`: a list of such strings, one or more
abbrev pub path_full : Lookup → Bool
path_full (present (list no_items)) = false
path_full (present (list (item v vs))) = names_full (item v vs)
path_full absent = false
path_full (present (integer minus n)) = false
path_full (present (string b)) = false
path_full (present (dictionary es)) = false

abbrev pub path_names : Lookup → List (List ℕ)
path_names (present (list vs)) = names_of vs
path_names absent = []
path_names (present (integer minus n)) = []
path_names (present (string b)) = []
path_names (present (dictionary es)) = []

-- `p`
abbrev pub letter_p : ℕ
letter_p = 112

-- BEP 47: `attr` is missing or a string; an entry whose `attr` has a `p` is padding
abbrev pub string_or_none : Lookup → Bool
string_or_none x = not (is_there x) || has_string x

abbrev pub is_padding : Lookup → Bool
is_padding x = not (without letter_p (bytes_of x))

-- BEP 47: padding may do without a path
abbrev pub path_fits : Bool → Lookup → Bool
path_fits is_pad x = path_full x || (is_pad && not (is_there x))

unfoldable pub entry_fits : Value → Bool
entry_fits (dictionary es) =
    is_natural (lookup key_length es) && (string_or_none (lookup key_attr es) && path_fits (is_padding (lookup key_attr es)) (lookup key_path es))
entry_fits (integer minus n) = false
entry_fits (string b) = false
entry_fits (list vs) = false

abbrev pub properties_of : Value → Entries
properties_of (dictionary es) = es
properties_of (integer minus n) = no_entries
properties_of (string b) = no_entries
properties_of (list vs) = no_entries

abbrev pub entry_of : Value → V1Entry
entry_of v =
    record {
      padding = is_padding (lookup key_attr (properties_of v));
      size = number_of (lookup key_length (properties_of v));
      path = path_names (lookup key_path (properties_of v));
    }

-- ---- the whole half: `files`, or `length` with `name`

unfoldable pub items_fit : Items → Bool
items_fit no_items = true
items_fit (item v vs) = entry_fits v && items_fit vs

unfoldable pub entries_in : Items → List V1Entry
entries_in no_items = []
entries_in (item v vs) = entry_of v ∷ entries_in vs

abbrev pub list_fits : Lookup → Bool
list_fits (present (list vs)) = items_fit vs
list_fits absent = false
list_fits (present (integer minus n)) = false
list_fits (present (string b)) = false
list_fits (present (dictionary es)) = false

abbrev pub list_entries : Lookup → List V1Entry
list_entries (present (list vs)) = entries_in vs
list_entries absent = []
list_entries (present (integer minus n)) = []
list_entries (present (string b)) = []
list_entries (present (dictionary es)) = []

abbrev pub one_file : ℕ → List ℕ → V1Entry
one_file n name = record { padding = false; size = n; path = name ∷ [] }

-- one of the two, and not both
unfoldable pub half_fits : Entries → Bool
half_fits info =
    cond (is_there (lookup key_files info))
    (not (is_there (lookup key_length info)) && (list_fits (lookup key_files info) && string_or_none (lookup key_name info)))
    (is_natural (lookup key_length info) && has_string (lookup key_name info))

unfoldable pub v1_entries : Entries → List V1Entry
v1_entries info =
    cond (is_there (lookup key_files info))
    (list_entries (lookup key_files info))
    (one_file (number_of (lookup key_length info)) (bytes_of (lookup key_name info)) ∷ [])

-- ---- that it fits the v2 half

-- the bytes of all entries, padding included
unfoldable pub total : List V1Entry → ℕ
total [] = 0
total (e ∷ es) = e.size + total es

unfoldable pub same_path : List (List ℕ) → List (List ℕ) → Bool
same_path [] [] = true
same_path [] (y ∷ ys) = false
same_path (x ∷ xs) [] = false
same_path (x ∷ xs) (y ∷ ys) = same x y && same_path xs ys

-- the files, padding left aside
unfoldable pub files_among : List V1Entry → List V1Entry
files_among [] = []
files_among (e ∷ es) = cond e.padding (files_among es) (e ∷ files_among es)

-- they are the same in the same order, with their lengths and paths
unfoldable pub same_files : List V1Entry → List File → Bool
same_files [] [] = true
same_files [] (f ∷ fs) = false
same_files (e ∷ es) [] = false
same_files (e ∷ es) (f ∷ fs) = eqb e.size f.size && (same_path e.path f.path && same_files es fs)

-- each file, an empty one too, begins at a multiple of the piece length; the first entry begins at `at`
unfoldable pub on_boundary : ℕ → ℕ → List V1Entry → Bool
on_boundary plen at [] = true
on_boundary plen at (e ∷ es) = (e.padding || eqb (at % plen) 0) && on_boundary plen (at + e.size) es

-- `pieces`: a string with 20 bytes for each piece of all entries
abbrev pub pieces_fit : ℕ → ℕ → Lookup → Bool
pieces_fit plen n x = has_string x && eqb (length (bytes_of x)) (20 * piece_count n plen)

-- a torrent is hybrid if `info` has `pieces`, of any type
abbrev pub is_hybrid : Entries → Bool
is_hybrid torrent = is_there (lookup key_pieces (info_of torrent))

abbrev pub entries_of_half : Entries → List V1Entry
entries_of_half torrent = v1_entries (info_of torrent)

unfoldable pub halves_fit : Entries → Bool
halves_fit torrent =
    half_fits (info_of torrent)
    && (same_files (files_among (entries_of_half torrent)) (files_of torrent)
    && (on_boundary (plen_of torrent) 0 (entries_of_half torrent)
    && pieces_fit (plen_of torrent) (total (entries_of_half torrent)) (lookup key_pieces (info_of torrent))))

-- ---- the number: 22 to 28, the lowest, then 31

-- what the v1 half makes of the number n of the v2 half
abbrev pub with_halves : Entries → ℕ → ℕ
with_halves torrent n = cond (eqb n 0) (cond (not (is_hybrid torrent) || halves_fit torrent) 0 halves_differ) n

unfoldable pub torrent_number : Entries → ℕ
torrent_number torrent = with_halves torrent (value_number torrent)
