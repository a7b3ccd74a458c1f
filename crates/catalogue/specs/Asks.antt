-- What the functions that write the list ask for, and what they leave.
-- Assumes nothing.
use Rattle.std.specs.Prelude.{◌≡◌, true, cond, ◌&&◌, List, [], ◌++◌, ℕ, zero, suc, ◌+◌, ◌-◌, ◌*◌, ◌≤◌, ◌<◌, length, get_or, eqb, ltb, Option, Some, None}
use Rattle.limits.specs.Limits.{largest_torrent}
use Rattle.octets.specs.Octets.{cut, be, pasted}
use Rattle.bencode.specs.declared.part.Part.{Part}
use Rattle.filetree.specs.Tree.{max_elements, Element, Listed, files, files_below, right, files_in}
use Rattle.filetree.specs.Count.{most_roots}
use Rattle.filetree.specs.Path.{Holds}
use Rattle.layers.specs.Layers.{keys_wide, layer_keys, LayersOpen, root_bytes, layer_string}
use Rattle.torrent.specs.Find.{PathGiven}
use Rattle.catalogue.specs.Catalogue.{part_bytes, head_bytes, Parts, record_size, records_of}
use Rattle.catalogue.specs.declared.record.Listing.{Listing}
use Rattle.catalogue.specs.declared.record.Record.{Record}
use Rattle.catalogue.specs.declared.Spot.{Spot}
use Rattle.catalogue.specs.declared.Put.{Put}

-- ---- a record, its path in an array

-- a string ends behind its beginning, and within the torrent, of which its part begins at `base`
abbrev pub Forward : ℕ → Option Part → Type 0
Forward base None = Unit {0}
Forward base (Some w) = (w.start ≤ w.end) × (base + w.end ≤ largest_torrent)

-- element k of the n that an array has
unfoldable pub array_element : ℕ → List ℕ → ℕ → ℕ → List ℕ
array_element base path n k =
    cond (ltb k n)
    (part_bytes (base + get_or path (2 * k) 0) (get_or path (2 * k + 1) 0 - get_or path (2 * k) 0))
    (be 8 0)

unfoldable pub array_elements : ℕ → List ℕ → ℕ → ℕ → List ℕ
array_elements base path n zero = []
array_elements base path n (suc m) = array_elements base path n m ++ array_element base path n m

-- the record of a file whose path is in an array
unfoldable pub record_from : List ℕ → List ℕ → List ℕ → Record → List ℕ
record_from t l path f =
    head_bytes f.list.layers f.length (root_bytes t f.length f.root) (layer_string l f.list.plen f.length (cut t f.root 32)) f.elements
    ++ array_elements f.list.tree path f.elements max_elements

-- it can be written
pub record RecordRight (tree layers room : ℕ) (path : List ℕ) (f : Record) : Type 0 where
  pub root_within : (f.length ≡ 0 → ⊥) → f.root + 32 ≤ tree
  pub layers_within : f.list.layers + layers ≤ largest_torrent
  pub path_given : PathGiven path f.elements f.list.tree
  pub fits : f.at + record_size ≤ room

abbrev pub parts_with : List ℕ → List ℕ → Listing → Parts
parts_with t l k = record { t = t; l = l; tree = k.tree; layers = k.layers; plen = k.plen }

-- ---- the list

-- the parts t and l of a torrent, by which its list is written
pub record Listable (t l : List ℕ) (k : Listing) : Type 0 where
  pub tree_within : k.tree + length t ≤ largest_torrent
  pub layers_within : k.layers + length l ≤ largest_torrent
  pub tree_right_lem : right (files_in t) ≡ true
  pub opened : LayersOpen l
  pub keyed : (keys_wide l && eqb (length (layer_keys l)) k.count) ≡ true
  pub few_layered : k.count ≤ most_roots

-- a directory can be written
pub record SpotRight (tree layers room : ℕ) (path : List ℕ) (s : Spot) : Type 0 where
  pub tree_within : s.list.tree + tree ≤ largest_torrent
  pub layers_within : s.list.layers + layers ≤ largest_torrent
  pub shallow : s.levels ≤ max_elements
  pub given : PathGiven path (max_elements - s.levels) s.list.tree
  pub fits : s.to ≤ room
  pub early : s.to ≤ record_size * s.at

-- the position past a directory, and where the next record goes
abbrev pub past : ℕ → ℕ → Option Put
past k m = Some (record { next = k; to = m })

abbrev pub PutIn : ℕ → ℕ → ℕ → Option Put → Type 0
PutIn at end room None = Unit {0}
PutIn at end room (Some w) = (at < w.next) × (w.next ≤ end) × (w.to ≤ room) × (w.to ≤ record_size * w.next)

-- the records of the files fs are written
pub record Recorded (q : Parts) (fs : List Listed) (k to : ℕ) (out₀ out : List ℕ) (r : Option Put) : Type 0 where
  pub answer : r ≡ past k (to + record_size * length fs)
  pub records : out ≡ pasted out₀ to (records_of q fs)
  pub size : length (records_of q fs) ≡ record_size * length fs

-- so it is of a directory that is right, where the array has the path to it and there is room
pub record Puts (t l : List ℕ) (s : Spot) (path₀ path out₀ out : List ℕ) (r : Option Put) : Type 0 where
  pub ends : PutIn s.at (length t) (length out₀) r
  pub given : PathGiven path (max_elements - s.levels) s.list.tree
  pub puts : (p : List Element) → Holds path₀ (max_elements - s.levels) p → (fs : List Listed) (k : ℕ) → files_below s.levels t s.at p ≡ files fs k → s.to + record_size * length fs ≤ length out₀
      → Recorded (parts_with t l s.list) fs k s.to out₀ out r × Holds path (max_elements - s.levels) p
