-- Record n of the list, read back, is what `kd_torrent_file` and `kd_torrent_path` answer for file n.
-- Assumes nothing.
use Rattle.std.specs.Prelude.{◌≡◌, Bool, ℕ, zero, suc, ◌+◌, ◌-◌, ◌*◌, ◌^◌, ◌≤◌, ◌<◌, length, eqb, ltb, List, [], ◌∷◌, ◌++◌, Option}
use Rattle.std.proofs.Math.Path.{refl, ap}
use Rattle.std.proofs.Common.{sym, ◌∙◌, arith, eqb-true, ltb-false, append_assoc}
use Rattle.std.proofs.Math.Bool.{true, false}
use Rattle.std.proofs.Math.Decide.{dec_lt}
use Rattle.std.proofs.Math.ListN.{get_or-append}
use Rattle.std.proofs.Math.Seq.{take-append_seam}
use Rattle.std.proofs.lemmas.Bool.{eqb-false}
use Rattle.octets.specs.Octets.{cut, pasted, be, number_at}
use Rattle.octets.specs.OctetsLaws.{cut_cut, cut_pasted_same, cut_append_left, number_same, number_of_be, number_behind, cut_behind, be_size, number_first}
use Rattle.limits.specs.Limits.{largest_torrent, max_levels}
use Rattle.numbers.specs.Numbers.{no_room}
use Rattle.tree.specs.Geometry.{piece_count, ceil_div}
use Rattle.tree.proofs.GeometryLaws.{ceil_enough, piece_some}
use Rattle.bencode.specs.Grammar.{dictionary, Entries, encode, Valid}
use Rattle.bencode.specs.declared.part.Part.{Part}
use Rattle.bencode.specs.PartsLaws.{one_string}
use Rattle.meaning.specs.Nth.{Nth}
use Rattle.meaning.proofs.NthLaws.{nth_some}
use Rattle.meaning.specs.Torrent.{File, tree_of, plen_of, files_of}
use Rattle.meaning.proofs.TestsLaws.{tree_no}
use Rattle.meaning.proofs.AmissLaws.{right_piece, right_tree, all_layers}
use Rattle.meaning.proofs.FilesLaws.{FileHolds, AllHold, nth_holds, nth_right, element_full, files_hold}
use Rattle.metainfo.specs.Metainfo.{Keys, bytes_in, keys_of}
use Rattle.filetree.specs.Tree.{max_elements, Element, Listed, listed, files_in, file_number}
use Rattle.filetree.specs.FilesLaws.{files_right, number_right}
use Rattle.layers.specs.Layers.{root_bytes, layer_string, start_of, size_of}
use Rattle.filetree.specs.Reading.{read_file}
use Rattle.torrent.specs.Torrent.{PartRead, FileRead, checked_of, read_of, file_read, file_answer, path_read, element_in}
use Rattle.torrent.specs.Answers.{FileIs}
use Rattle.torrent.specs.NumberMeans.{read_number_lem, read_encodes}
use Rattle.torrent.specs.ReadMeans.{part_within, at_values, value_zero, same_keys, all_files, torrent_is, file_read_lem, file_answer_lem, path_answer, file_is, element_is}
use Rattle.catalogue.specs.Catalogue.{part_bytes, element_bytes, elements_bytes, head_bytes, Parts, record_of, record_size, records_of, parts_of, list_answer, list_after}
use Rattle.catalogue.proofs.CatalogueLaws.{element_none, elements_length, root_length, record_length, records_length, record_at}
use Rattle.calls.specs.Calls.{RecordIs}

-- ---- the head

module _ (base n : ℕ) (root : List ℕ) (layer : Option Part) (elements : ℕ) (rest : List ℕ) (wide : length root ≡ 32) where
  abbrev start : ℕ
  start = start_of base layer

  abbrev size : ℕ
  size = size_of layer

  -- the bytes behind each field
  abbrev behind_layer : List ℕ
  behind_layer = be 4 elements ++ (be 4 0 ++ rest)

  abbrev behind_root : List ℕ
  behind_root = be 4 start ++ (be 4 size ++ behind_layer)

  head_is : head_bytes base n root layer elements ++ rest ≡ be 8 n ++ (root ++ behind_root)
  unfolding head_bytes
  head_is =
      let a = be 8 n in
      let p = part_bytes start size in
      let e = be 4 elements in
      append_assoc (((a ++ root) ++ p) ++ e) (be 4 0) rest
      ∙ append_assoc ((a ++ root) ++ p) e (be 4 0 ++ rest)
      ∙ append_assoc (a ++ root) p behind_layer
      ∙ append_assoc a root (p ++ behind_layer)
      ∙ ap (λ (z : List ℕ). a ++ (root ++ z)) (append_assoc (be 4 start) (be 4 size) behind_layer)

  -- what they say
  head_length : n < 256 ^ 8 → number_at (head_bytes base n root layer elements ++ rest) 0 8 ≡ n
  head_length h = rw head_is (number_first 8 n (root ++ behind_root) h)

  head_root : cut (head_bytes base n root layer elements ++ rest) 8 32 ≡ root
  head_root = rw head_is (cut_behind (be 8 n) (root ++ behind_root) 8 0 32 (omega (arith, be_size 8 n)) ∙ cut_append_left root behind_root 0 32 (omega arith) ∙ whole)
    where
      whole : cut root 0 32 ≡ root
      whole = ap (cut root 0) (sym wide) ∙ sym (cut_append_left root [] 0 (length root) (omega arith)) ∙ cut_front
        where
          cut_front : cut (root ++ []) 0 (length root) ≡ root
          cut_front = unfold cut in take-append_seam root []

  -- behind length and root
  head_tail : (i k : ℕ) → number_at (head_bytes base n root layer elements ++ rest) (40 + i) k ≡ number_at behind_root i k
  head_tail i k =
      rw head_is
      (number_behind (be 8 n) (root ++ behind_root) (40 + i) (32 + i) k (omega (arith, be_size 8 n)) ∙ number_behind root behind_root (32 + i) i k (omega arith))

  head_start : start < 256 ^ 4 → number_at (head_bytes base n root layer elements ++ rest) 40 4 ≡ start
  head_start h = head_tail 0 4 ∙ number_first 4 start (be 4 size ++ behind_layer) h

  head_size : size < 256 ^ 4 → number_at (head_bytes base n root layer elements ++ rest) 44 4 ≡ size
  head_size h = head_tail 4 4 ∙ number_behind (be 4 start) (be 4 size ++ behind_layer) 4 0 4 (omega (arith, be_size 4 start)) ∙ number_first 4 size behind_layer h

  -- behind the layer
  head_last : (i k : ℕ) → number_at (head_bytes base n root layer elements ++ rest) (48 + i) k ≡ number_at behind_layer i k
  head_last i k =
      ap (λ (z : ℕ). number_at (head_bytes base n root layer elements ++ rest) z k) (let o : 48 + i ≡ 40 + (8 + i) = omega arith in o)
      ∙ head_tail (8 + i) k
      ∙ number_behind (be 4 start) (be 4 size ++ behind_layer) (8 + i) (4 + i) k (omega (arith, be_size 4 start))
      ∙ number_behind (be 4 size) behind_layer (4 + i) i k (omega (arith, be_size 4 size))

  head_elements : elements < 256 ^ 4 → number_at (head_bytes base n root layer elements ++ rest) 48 4 ≡ elements
  head_elements h = head_last 0 4 ∙ number_first 4 elements (be 4 0 ++ rest) h

  head_zero : number_at (head_bytes base n root layer elements ++ rest) 52 4 ≡ 0
  head_zero = head_last 4 4 ∙ number_behind (be 4 elements) (be 4 0 ++ rest) 4 0 4 (omega (arith, be_size 4 elements)) ∙ number_first 4 0 rest (omega arith)

  -- behind the head
  head_past : (i k : ℕ) → number_at (head_bytes base n root layer elements ++ rest) (56 + i) k ≡ number_at rest i k
  head_past i k =
      ap (λ (z : ℕ). number_at (head_bytes base n root layer elements ++ rest) z k) (let o : 56 + i ≡ 48 + (8 + i) = omega arith in o)
      ∙ head_last (8 + i) k
      ∙ number_behind (be 4 elements) (be 4 0 ++ rest) (8 + i) (4 + i) k (omega (arith, be_size 4 elements))
      ∙ number_behind (be 4 0) rest (4 + i) i k (omega (arith, be_size 4 0))

-- ---- the elements

-- a number in the place of element k
element_number : (base : ℕ) (path : List Element) (m k i n : ℕ) → k < m → i + n ≤ 8 → number_at (elements_bytes base path m) (i + 8 * k) n ≡ number_at (element_bytes base path k) i n
unfolding elements_bytes
element_number base path zero k i n h l = absurd (omega arith)
element_number base path (suc m) k i n h l = by_place (dec_lt k m) (element_number base path m k i n)
  where
    by_place : Dec (k < m) → (k < m → i + n ≤ 8 → number_at (elements_bytes base path m) (i + 8 * k) n ≡ number_at (element_bytes base path k) i n)
        → number_at (elements_bytes base path m ++ element_bytes base path m) (i + 8 * k) n ≡ number_at (element_bytes base path k) i n
    by_place (yes g) ih =
        number_same (elements_bytes base path m ++ element_bytes base path m) (elements_bytes base path m) (i + 8 * k) (i + 8 * k) n
        (λ j o. get_or-append (elements_bytes base path m) (element_bytes base path m) 0 (i + 8 * k + j) (omega (arith, elements_length base path m)))
        ∙ ih g l
    by_place (no g) ih =
        let e : k ≡ m = omega arith in
        number_behind (elements_bytes base path m) (element_bytes base path m) (i + 8 * k) i n (omega (arith, elements_length base path m)) ∙ rw e refl

-- element k as it is answered
element_place : (base : ℕ) (path : List Element) (k : ℕ) → k < length path → (element_in base path k).start < 256 ^ 4 → (element_in base path k).size < 256 ^ 4
    → (number_at (element_bytes base path k) 0 4 ≡ (element_in base path k).start) × (number_at (element_bytes base path k) 4 4 ≡ (element_in base path k).size)
unfolding element_bytes element_in
element_place base [] k l x y = absurd (omega arith)
element_place base (e ∷ path) zero l x y =
    let a = base + e.start in
    let n = e.end - e.start in (
      number_first 4 a (be 4 n) x,
      number_behind (be 4 a) (be 4 n) 4 0 4 (omega (arith, be_size 4 a)) ∙ number_of_be 4 n y,
    )
element_place base (e ∷ path) (suc k) l x y = element_place base path k (omega arith) x y

-- ---- what it carries

-- the record of a file whose answers are small
record_carries : (p : Parts) (f : Listed) (part : ℕ → PartRead) → ((f.size ≡ 0 → ⊥) → f.root + 32 ≤ length p.t) → f.size < 256 ^ 8
    → start_of p.layers (layer_string p.l p.plen f.size (cut p.t f.root 32)) < 256 ^ 4 → size_of (layer_string p.l p.plen f.size (cut p.t f.root 32)) < 256 ^ 4
    → length f.path ≤ max_elements → ((k : ℕ) → part k ≡ element_in p.tree f.path k)
    → ((k : ℕ) → k < length f.path → ((element_in p.tree f.path k).start < 256 ^ 4) × ((element_in p.tree f.path k).size < 256 ^ 4))
    → RecordIs (record_of p f) (file_answer p.t p.l p.layers p.plen f) part
unfolding record_of
record_carries p f part within long start size few is small =
    let w = root_length p.t f.size f.root within in
    record {
      all = record_length p f within;
      length_is = head_length p.layers f.size root layer count rest w long;
      root = head_root p.layers f.size root layer count rest w;
      layer_start = head_start p.layers f.size root layer count rest w start;
      layer_size = head_size p.layers f.size root layer count rest w size;
      elements = head_elements p.layers f.size root layer count rest w (omega arith);
      zero = head_zero p.layers f.size root layer count rest w;
      few = few;
      element_start = λ k h.
          head_past p.layers f.size root layer count rest w (8 * k) 4 ∙ (place k h).0 ∙ ap (λ (z : PartRead). z.start) (sym (is k));
      element_size = λ k h.
          ap (λ (z : ℕ). number_at (head_bytes p.layers f.size root layer count ++ rest) z 4) (let o : 60 + 8 * k ≡ 56 + (4 + 8 * k) = omega arith in o)
          ∙ head_past p.layers f.size root layer count rest w (4 + 8 * k) 4
          ∙ (place k h).1
          ∙ ap (λ (z : PartRead). z.size) (sym (is k));
      behind = λ k h l.
          head_past p.layers f.size root layer count rest w (8 * k) 8
          ∙ ap (λ (z : ℕ). number_at rest z 8) (let o : 8 * k ≡ 0 + 8 * k = omega arith in o)
          ∙ element_number p.tree f.path max_elements k 0 8 (omega arith) (omega arith)
          ∙ ap (λ (z : List ℕ). number_at z 0 8) (element_none p.tree f.path k h)
          ∙ number_of_be 8 0 (omega arith);
    }
  where
    root : List ℕ
    root = root_bytes p.t f.size f.root

    layer : Option Part
    layer = layer_string p.l p.plen f.size (cut p.t f.root 32)

    count : ℕ
    count = length f.path

    rest : List ℕ
    rest = elements_bytes p.tree f.path max_elements

    place : (k : ℕ) → k < length f.path
        → (number_at (elements_bytes p.tree f.path max_elements) (8 * k) 4 ≡ (element_in p.tree f.path k).start)
        × (number_at (elements_bytes p.tree f.path max_elements) (4 + 8 * k) 4 ≡ (element_in p.tree f.path k).size)
    place k h =
        let s = small k h in
        let w = element_place p.tree f.path k h s.0 s.1 in
        let o : 8 * k ≡ 0 + 8 * k = omega arith in (
          ap (λ (z : ℕ). number_at rest z 4) o ∙ element_number p.tree f.path max_elements k 0 4 (omega arith) (omega arith) ∙ w.0,
          element_number p.tree f.path max_elements k 4 4 (omega arith) (omega arith) ∙ w.1,
        )

-- ---- the list of a torrent

-- done: the torrent gets 0, and there is room
record Done (s out : List ℕ) : Type 0 where
  pub number : (checked_of s).keys.number ≡ 0
  pub room : record_size * (checked_of s).files ≤ length out
  pub after : list_after s out ≡ pasted out 0 (records_of (parts_of s (checked_of s).keys) (listed (files_in (bytes_in s (checked_of s).keys.tree))))

list_done : (s out : List ℕ) → (list_answer s out).number ≡ 0 → Done s out
list_done s out e = by_number (eqb (checked_of s).keys.number 0) refl (ltb (length out) (record_size * (checked_of s).files)) refl
  where
    by_number : (b : Bool) → eqb (checked_of s).keys.number 0 ≡ b → (c : Bool) → ltb (length out) (record_size * (checked_of s).files) ≡ c → Done s out
    by_number true q false r =
        record { number = eqb-true (checked_of s).keys.number 0 q; room = ltb-false (length out) (record_size * (checked_of s).files) r; after = unfold list_after in rw (q, r) refl }
    by_number true q true r = let z : (list_answer s out).number ≡ no_room = unfold list_answer in rw (q, r) refl in absurd (omega arith)
    by_number false q c r =
        let z : (list_answer s out).number ≡ (checked_of s).keys.number = unfold list_answer in rw q refl in
        absurd (eqb-false (checked_of s).keys.number 0 q (sym z ∙ e))

-- a part of the torrent that is not empty is below 2^32
part_small : (s : List ℕ) (a n : ℕ) (x : List ℕ) → length s ≤ largest_torrent → n ≡ length x → cut s a n ≡ x → 0 < length x → (a < 256 ^ 4) × (n < 256 ^ 4)
part_small s a n x h e q full = let w = part_within s a n (ap length q ∙ sym e) (λ z. omega arith) in (omega arith, omega arith)

-- 32 bytes for each piece of a file that has one
layer_full : (n plen : ℕ) → 0 < plen → plen < n → 0 < 32 * piece_count n plen
unfolding piece_count
layer_full n plen h g = by_count (ceil_div n plen) refl
  where
    by_count : (c : ℕ) → ceil_div n plen ≡ c → 0 < 32 * ceil_div n plen
    by_count zero q = let w = ceil_enough n plen 0 h (omega arith) in absurd (omega arith)
    by_count (suc c) q = omega arith

module _ (s out : List ℕ) (answered : (list_answer s out).number ≡ 0) (es : Entries) (start : s ≡ encode (dictionary es)) (valid : Valid (dictionary es) max_levels) (small : length s ≤ largest_torrent) where
  is_done : Done s out
  is_done = list_done s out answered

  taken : (read_of s).number ≡ 0
  taken = read_number_lem s ∙ is_done.number

  abbrev t : List ℕ
  t = bytes_in s (keys_of s).tree

  abbrev files : List Listed
  files = listed (files_in t)

  abbrev parts : Parts
  parts = parts_of s (keys_of s)

  -- what holds of the files
  hold : AllHold (files_of es)
  hold = files_hold (tree_of es) (at_values s es start valid taken).tree_valid (tree_no (tree_of es) (right_tree es (value_zero s es start valid taken)))

  -- the list after the call
  after_is : list_after s out ≡ pasted out 0 (records_of parts files)
  after_is = is_done.after ∙ ap (λ (k : Keys). pasted out 0 (records_of (parts_of s k) (listed (files_in (bytes_in s k.tree))))) (same_keys s es start valid taken)

  size_is : length (records_of parts files) ≡ record_size * length files
  size_is = records_length parts files (files_right t)

  room : record_size * length files ≤ length out
  room = omega (arith, is_done.room, all_files s es start valid taken)

  -- record n of it
  record_is : (n : ℕ) → n < length files → cut (list_after s out) (record_size * n) record_size ≡ record_of parts (file_number files n)
  record_is n h =
      let all = records_of parts files in
      let whole : cut (pasted out 0 all) 0 (length all) ≡ all = cut_pasted_same out 0 all (length all) refl (omega (arith, size_is, room)) in
      ap (λ (x : List ℕ). cut x (record_size * n) record_size) after_is
      ∙ ap (λ (i : ℕ). cut (pasted out 0 all) i record_size) (let o : record_size * n ≡ 0 + record_size * n = omega arith in o)
      ∙ sym (cut_cut (pasted out 0 all) 0 (length all) (record_size * n) record_size (omega (arith, size_is)))
      ∙ ap (λ (x : List ℕ). cut x (record_size * n) record_size) whole
      ∙ record_at parts files (files_right t) n h

  module _ (n : ℕ) (v : File) (at : Nth (files_of es) n v) where
    abbrev f : Listed
    f = file_number files n

    n_below : (n < (checked_of s).files) × (n < length files) × (v ≡ read_file t f)
    n_below = file_read_lem s es start valid taken n v at

    answer : file_read s n ≡ file_answer t (bytes_in s (keys_of s).layers) (keys_of s).layers.start (keys_of s).plen f
    answer = file_answer_lem s es start valid taken n n_below.0

    is : FileIs s es v (file_read s n)
    is = file_is s es start valid taken n v at

    holds : FileHolds v
    holds = nth_holds (files_of es) n v hold at

    path_count : length v.path ≡ length f.path
    path_count = sym is.elements ∙ ap (λ (z : FileRead). z.elements) answer

    -- where its layer stands
    layer_small : ((file_read s n).start < 256 ^ 4) × ((file_read s n).size < 256 ^ 4)
    layer_small = by_length (dec_lt (plen_of es) v.size)
      where
        by_length : Dec (plen_of es < v.size) → ((file_read s n).start < 256 ^ 4) × ((file_read s n).size < 256 ^ 4)
        by_length (yes long) =
            let w = is.layer long in
            let zero_number = value_zero s es start valid taken in
            let l = (all_layers es zero_number).each_file n v at long in
            let same : w.0 ≡ l.0 = one_string w.0 l.0 (sym w.1 ∙ l.1.found) in
            let full : 0 < length w.0 =
            omega (arith, ap length same, l.1.size, layer_full v.size (plen_of es) (piece_some (plen_of es) (right_piece es zero_number)) long) in
            part_small s (file_read s n).start (file_read s n).size w.0 small w.2 w.3 full
        by_length (no short) = let w = is.no_layer (omega arith) in (omega (arith, w.0), omega (arith, w.1))

    -- where its elements stand
    element_small : (k : ℕ) → k < length f.path → ((path_read s n k).start < 256 ^ 4) × ((path_read s n k).size < 256 ^ 4)
    element_small k h =
        let x = nth_some v.path k (omega (arith, path_count)) in
        let p = element_is s es start valid taken n v at k x.0 x.1 in
        part_small s (path_read s n k).start (path_read s n k).size x.0 small p.size p.bytes (element_full x.0 (nth_right v.path k x.0 holds.elements x.1))

    path_is : (k : ℕ) → path_read s n k ≡ element_in (keys_of s).tree.start f.path k
    path_is k = path_answer s es start valid taken n k n_below.0

    carries : RecordIs (record_of parts f) (file_answer t (bytes_in s (keys_of s).layers) (keys_of s).layers.start (keys_of s).plen f) (path_read s n)
    carries =
        let size : v.size ≡ f.size = sym is.size ∙ ap (λ (z : FileRead). z.length) answer in
        record_carries parts f (path_read s n) (number_right (length t) files n (files_right t) n_below.1).root_within (omega (arith, holds.small))
        (rw answer at layer_small.0) (rw answer at layer_small.1) (omega (arith, holds.shallow, path_count)) path_is
        (λ k h. let w = element_small k h in (rw (path_is k) at w.0, rw (path_is k) at w.1))

    record_of_lem : RecordIs (cut (list_after s out) (record_size * n) record_size) (file_read s n) (path_read s n)
    record_of_lem = rw (record_is n n_below.1, answer) carries

-- record n of a list that is done is what the other calls answer for file n
pub list_record : (s out : List ℕ) → (list_answer s out).number ≡ 0 → (n : ℕ) → n < (read_of s).files → RecordIs (cut (list_after s out) (record_size * n) record_size) (file_read s n) (path_read s n)
list_record s out answered n h =
    let zero_number = read_number_lem s ∙ (list_done s out answered).number in
    let w = read_encodes s zero_number in
    let es = w.1.0 in
    let count = (torrent_is s es w.1.2 w.1.1 zero_number).file_count in
    let v = nth_some (files_of es) n (omega arith) in
    record_of_lem s out answered es w.1.2 w.1.1 w.0 n v.0 v.1
