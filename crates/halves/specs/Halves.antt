-- 02, request 12, 31: the halves of a hybrid don't describe the same files, or a v1 key is malformed; each clause as a definition of its own.
-- `HalvesLaws` has the theorems: `torrent_number` is 31 exactly if none of 22 to 28 is amiss and this is; without `pieces` nothing changes.
-- Assumes nothing.
use Rattle.std.specs.Prelude.{◌≡◌, Bool, true, false, List, [], ◌∷◌, ℕ, zero, suc, ◌+◌, ◌*◌, ◌%◌, length}
use Rattle.tree.specs.Geometry.{piece_count}
use Rattle.bencode.specs.Grammar.{Value, integer, string, list, dictionary, Items, no_items, item, Entries}
use Rattle.bencode.specs.Parts.{Lookup, absent, present, lookup}
use Rattle.meaning.specs.Keys.{key_length}
use Rattle.halves.specs.V1Keys.{key_pieces, key_files, key_name, key_path, key_attr}
use Rattle.meaning.specs.Counting.{Member}
use Rattle.meaning.specs.Nth.{Nth}
use Rattle.meaning.specs.Torrent.{info_of, plen_of, File, files_of}
use Rattle.halves.specs.V1Half.{V1Entry, letter_p, one_file, total}

-- a torrent is hybrid if `info` has `pieces`, of any type
abbrev pub Hybrid : Entries → Type 0
Hybrid torrent = lookup key_pieces (info_of torrent) ≡ absent → ⊥

-- ---- the v1 keys are well formed

-- strings, none of them empty
pub data Names : Items → List (List ℕ) → Type 0 where
  none : Names no_items []
  name : (c : ℕ) (cs : List ℕ) (vs : Items) (ns : List (List ℕ)) → Names vs ns → Names (item (string (c ∷ cs)) vs) ((c ∷ cs) ∷ ns)

-- `path`: a list of such strings, one or more
pub record PathIs (x : Lookup) (path : List (List ℕ)) : Type 0 where
  pub items : Items
  pub a_list : x ≡ present (list items)
  pub names : Names items path
  pub some : path ≡ [] → ⊥

-- BEP 47: `attr` is missing or a string; with a `p` in it the entry is padding
pub data AttrIs : Lookup → Bool → Type 0 where
  missing : AttrIs absent false
  plain : (b : List ℕ) → (Member letter_p b → ⊥) → AttrIs (present (string b)) false
  padding : (b : List ℕ) → Member letter_p b → AttrIs (present (string b)) true

-- BEP 47: padding may do without a path
pub data PathGiven : Lookup → Bool → List (List ℕ) → Type 0 where
  given : (x : Lookup) (is_pad : Bool) (path : List (List ℕ)) → PathIs x path → PathGiven x is_pad path
  left_out : PathGiven absent true []

-- an entry of `files`: a dictionary with an integer `length` that is not negative, a `path`, and perhaps an `attr`
pub record EntryIs (v : Value) (e : V1Entry) : Type 0 where
  pub properties : Entries
  pub a_dictionary : v ≡ dictionary properties
  pub length_is : lookup key_length properties ≡ present (integer false e.size)
  pub path_is : PathGiven (lookup key_path properties) e.padding e.path
  pub attr_is : AttrIs (lookup key_attr properties) e.padding

pub data EntriesAre : Items → List V1Entry → Type 0 where
  none : EntriesAre no_items []
  more : (v : Value) (vs : Items) (e : V1Entry) (es : List V1Entry) → EntryIs v e → EntriesAre vs es → EntriesAre (item v vs) (e ∷ es)

-- `name`, where it isn't needed: missing or a string
pub data NameOrNone : Lookup → Type 0 where
  missing : NameOrNone absent
  named : (b : List ℕ) → NameOrNone (present (string b))

-- the v1 half: `length` without `files`, and `name` is the one file's path; or `files` without `length`
pub data V1Files (info : Entries) : List V1Entry → Type 0 where
  single : (n : ℕ) (name : List ℕ) → lookup key_files info ≡ absent → lookup key_length info ≡ present (integer false n) → lookup key_name info ≡ present (string name)
      → V1Files info (one_file n name ∷ [])
  several : (vs : Items) (es : List V1Entry) → lookup key_length info ≡ absent → lookup key_files info ≡ present (list vs) → EntriesAre vs es → NameOrNone (lookup key_name info)
      → V1Files info es

-- ---- both halves describe the same files

-- in the same order, with the same lengths and paths, padding left aside
pub data SameFiles : List V1Entry → List File → Type 0 where
  none : SameFiles [] []
  aside : (e : V1Entry) (es : List V1Entry) (fs : List File) → e.padding ≡ true → SameFiles es fs → SameFiles (e ∷ es) fs
  one : (e : V1Entry) (es : List V1Entry) (f : File) (fs : List File) → e.padding ≡ false → e.size ≡ f.size → e.path ≡ f.path → SameFiles es fs → SameFiles (e ∷ es) (f ∷ fs)

-- where entry i begins: behind all that stand before it
unfoldable pub start_at : List V1Entry → ℕ → ℕ
start_at [] i = 0
start_at (e ∷ es) zero = 0
start_at (e ∷ es) (suc i) = e.size + start_at es i

-- each file, an empty one too, on a piece boundary
abbrev pub OnBoundary : ℕ → List V1Entry → Type 0
OnBoundary plen es = (i : ℕ) (e : V1Entry) → Nth es i e → e.padding ≡ false → start_at es i % plen ≡ 0

-- `pieces`: a string with 20 bytes for each piece of all entries, padding included
pub record PiecesRight (plen : ℕ) (es : List V1Entry) (x : Lookup) : Type 0 where
  pub hashes : List ℕ
  pub a_string : x ≡ present (string hashes)
  pub twenty_each : length hashes ≡ 20 * piece_count (total es) plen

pub record HalvesAgree (torrent : Entries) : Type 0 where
  pub entries : List V1Entry
  pub v1_files : V1Files (info_of torrent) entries
  pub same_files_lem : SameFiles entries (files_of torrent)
  pub on_boundary_lem : OnBoundary (plen_of torrent) entries
  pub pieces : PiecesRight (plen_of torrent) entries (lookup key_pieces (info_of torrent))

-- ---- what is amiss

abbrev pub Amiss31 : Entries → Type 0
Amiss31 torrent = Hybrid torrent × (HalvesAgree torrent → ⊥)
