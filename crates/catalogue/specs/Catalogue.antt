-- 01, "The torrent": all files of a torrent s in one list, a record of `record_size` bytes for each, in tree order.
-- Assumes nothing.
use Rattle.std.specs.Prelude.{cond, List, [], ◌∷◌, ◌++◌, ℕ, zero, suc, ◌+◌, ◌-◌, ◌*◌, length, eqb, ltb, Option}
use Rattle.octets.specs.Octets.{cut, be, pasted}
use Rattle.numbers.specs.Numbers.{no_room, refused, done}
use Rattle.numbers.specs.declared.Answer.{Answer}
use Rattle.metainfo.specs.Metainfo.{Keys, bytes_in}
use Rattle.bencode.specs.declared.part.Part.{Part}
use Rattle.filetree.specs.Tree.{max_elements, Element, Listed, listed, files_in}
use Rattle.layers.specs.Layers.{root_bytes, layer_string, start_of, size_of}
use Rattle.torrent.specs.Torrent.{Checked, checked_of}

-- ---- a record

-- a part of the torrent: where it begins, and its size
abbrev pub part_bytes : ℕ → ℕ → List ℕ
part_bytes start size = be 4 start ++ be 4 size

-- element k of a path, of a tree that begins at `base`; eight zero bytes if there is none
unfoldable pub element_bytes : ℕ → List Element → ℕ → List ℕ
element_bytes base [] k = be 8 0
element_bytes base (e ∷ es) zero = part_bytes (base + e.start) (e.end - e.start)
element_bytes base (e ∷ es) (suc k) = element_bytes base es k

-- the first m of them, one after the other
unfoldable pub elements_bytes : ℕ → List Element → ℕ → List ℕ
elements_bytes base path zero = []
elements_bytes base path (suc m) = elements_bytes base path m ++ element_bytes base path m

-- 56 bytes: length, root, layer, how many path elements, four zero bytes
unfoldable pub head_bytes : ℕ → ℕ → List ℕ → Option Part → ℕ → List ℕ
head_bytes base n root layer elements =
    be 8 n ++ root ++ part_bytes (start_of base layer) (size_of layer) ++ be 4 elements ++ be 4 0

-- the parts of a torrent that `file tree` and `piece layers` are, and where they begin
pub record Parts : Type 0 where
  pub t : List ℕ
  pub l : List ℕ
  pub tree : ℕ
  pub layers : ℕ
  pub plen : ℕ

-- the head of 56 bytes, and a place of 8 bytes for each element that a path may have
unfoldable pub record_of : Parts → Listed → List ℕ
record_of p f =
    head_bytes p.layers f.size (root_bytes p.t f.size f.root) (layer_string p.l p.plen f.size (cut p.t f.root 32)) (length f.path)
    ++ elements_bytes p.tree f.path max_elements

abbrev pub record_size : ℕ
record_size = 56 + 8 * max_elements

unfoldable pub records_of : Parts → List Listed → List ℕ
records_of p [] = []
records_of p (f ∷ fs) = record_of p f ++ records_of p fs

-- ---- what is answered, and what the output is then

abbrev pub parts_of : List ℕ → Keys → Parts
parts_of s k =
    record { t = bytes_in s k.tree; l = bytes_in s k.layers; tree = k.tree.start; layers = k.layers.start; plen = k.plen }

-- 19 to 28 or 31; 11 where the output is too short; 0 and the size of the list
abbrev pub answer_in : List ℕ → Checked → Answer
answer_in out c =
    cond (eqb c.keys.number 0)
    (cond (ltb (length out) (record_size * c.files)) (refused no_room) (done (record_size * c.files)))
    (refused c.keys.number)

-- the list at the start of the output, the bytes behind it as they were; beside a refusal all of it as it was
abbrev pub after_in : List ℕ → List ℕ → Checked → List ℕ
after_in s out c =
    cond (eqb c.keys.number 0)
    (cond (ltb (length out) (record_size * c.files)) out (pasted out 0 (records_of (parts_of s c.keys) (listed (files_in (bytes_in s c.keys.tree))))))
    out

unfoldable pub list_answer : List ℕ → List ℕ → Answer
list_answer s out = answer_in out (checked_of s)

unfoldable pub list_after : List ℕ → List ℕ → List ℕ
list_after s out = after_in s out (checked_of s)
