-- 02, request 5: no file of a torrent that is answered 0 is outside its folder; the rule for path elements changes no other answer; and an
-- element against it is 25.
-- Assumes nothing.
use Rattle.std.specs.Prelude.{◌≡◌, refl, ◌⊎◌, true, List, ◌++◌, ℕ, zero, suc, ◌+◌, ◌≤◌, ◌<◌, length, take}
use Rattle.std.proofs.Common.{sym, ap, ◌∙◌, inl, inr, arith}
use Rattle.std.proofs.Math.Decide.{dec_lt, ℕ_discrete}
use Rattle.limits.specs.Limits.{largest_torrent, max_levels}
use Rattle.numbers.specs.Numbers.{wrong_tree, no_such_part}
use Rattle.bencode.specs.Grammar.{dictionary, Entries, encode, Valid}
use Rattle.meaning.specs.Nth.{Nth}
use Rattle.meaning.proofs.NthLaws.{nth_some}
use Rattle.meaning.specs.Torrent.{File, tree_of, files_of, number_by, value_number}
use Rattle.meaning.proofs.TestsLaws.{tree_no}
use Rattle.meaning.specs.Amiss.{NoneBelow25}
use Rattle.meaning.proofs.AmissLaws.{right_tree}
use Rattle.meaning.proofs.ClimbsOut.{climbs_out}
use Rattle.meaning.proofs.FilesLaws.{FileHolds, nth_holds, nth_right, files_hold}
use Rattle.meaning.specs.Paths.{StaysInside, AllStay, written, to_zero, Location, walk, follow, InFolder}
use Rattle.meaning.proofs.PathsLaws.{element_exactly, followed, on_the_way, in_folder}
use Rattle.meaning.proofs.NamesAside.{tree_shaped, names_right}
use Rattle.meaning.proofs.NamesAsideLaws.{names_right_stands, names_only_25}
use Rattle.halves.specs.V1Half.{with_halves, torrent_number}
use Rattle.torrent.specs.Torrent.{PartRead, FileRead, Torrent, checked_of, read_of, file_read, path_read}
use Rattle.torrent.specs.NumberMeans.{number_is_the_values, read_number_lem, read_encodes, refused_read, refused_file, refused_path}
use Rattle.torrent.specs.ReadMeans.{at_values, value_zero, torrent_is, file_is, no_file, element_is, no_element, no_path}
use Rattle.catalogue.specs.Catalogue.{list_answer, list_after}
use Rattle.calls.specs.RecordLaws.{list_record}
use Rattle.calls.specs.Inside.{element_read, elements_read, file_path, file_leads, record_at, record_elements, record_element}

-- ---- file n of a torrent that is answered 0

record FileAt (s : List ℕ) (n : ℕ) : Type 0 where
  pub value : Entries
  pub bytes : s ≡ encode (dictionary value)
  pub valid : Valid (dictionary value) max_levels
  pub taken : (read_of s).number ≡ 0
  pub file : File
  pub there : Nth (files_of value) n file
  pub holds : FileHolds file

-- such a torrent has a value, and its file n holds what each does
file_there : (s : List ℕ) (n : ℕ) → (taken : (read_of s).number ≡ 0) → ((es : Entries) (bytes : s ≡ encode (dictionary es)) (valid : Valid (dictionary es) max_levels) → length (files_of es) ≤ n → ⊥) → FileAt s n
file_there s n taken h = by_count (dec_lt n (length (files_of es)))
  where
    es : Entries
    es = (read_encodes s taken).1.0

    start : s ≡ encode (dictionary es)
    start = (read_encodes s taken).1.2

    good : Valid (dictionary es) max_levels
    good = (read_encodes s taken).1.1

    by_count : Dec (n < length (files_of es)) → FileAt s n
    by_count (no g) = absurd (h es start good (omega arith))
    by_count (yes l) =
        let v = nth_some (files_of es) n l in
        let right = tree_no (tree_of es) (right_tree es (value_zero s es start good taken)) in
        record {
          value = es;
          bytes = start;
          valid = good;
          taken = taken;
          file = v.0;
          there = v.1;
          holds = nth_holds (files_of es) n v.0 (files_hold (tree_of es) (at_values s es start good taken).tree_valid right) v.1;
        }

-- an answer 0 comes from a torrent that is answered 0, and from a file that is there
file_found : (s : List ℕ) (n : ℕ) → (file_read s n).number ≡ 0 → FileAt s n
file_found s n e = by_number (ℕ_discrete (checked_of s).keys.number 0)
  where
    by_number : Dec ((checked_of s).keys.number ≡ 0) → FileAt s n
    by_number (no g) = absurd (g (sym (ap (λ (r : FileRead). r.number) (refused_file s n g)) ∙ e))
    by_number (yes z) =
        let taken = read_number_lem s ∙ z in
        file_there s n taken (λ es bytes valid l. let q : (file_read s n).number ≡ no_such_part = ap (λ (r : FileRead). r.number) (no_file s es bytes valid taken n l) in omega arith)

path_found : (s : List ℕ) (n k : ℕ) → (path_read s n k).number ≡ 0 → FileAt s n
path_found s n k e = by_number (ℕ_discrete (checked_of s).keys.number 0)
  where
    by_number : Dec ((checked_of s).keys.number ≡ 0) → FileAt s n
    by_number (no g) = absurd (g (sym (ap (λ (r : PartRead). r.number) (refused_path s n k g)) ∙ e))
    by_number (yes z) =
        let taken = read_number_lem s ∙ z in
        file_there s n taken (λ es bytes valid l. let q : (path_read s n k).number ≡ no_such_part = ap (λ (r : PartRead). r.number) (no_path s es bytes valid taken n k l) in omega arith)

-- ---- every element of every path

-- `kd_torrent_path`: an element that is answered 0 is not empty, not `.` or `..`, and has no `/` and no zero byte
pub element_stays : (s : List ℕ) (n k : ℕ) → (path_read s n k).number ≡ 0 → StaysInside (element_read s n k)
element_stays s n k e = by_count (dec_lt k (length f.file.path))
  where
    f : FileAt s n
    f = path_found s n k e

    by_count : Dec (k < length f.file.path) → StaysInside (element_read s n k)
    by_count (no g) =
        let q : (path_read s n k).number ≡ no_such_part = ap (λ (r : PartRead). r.number) (no_element s f.value f.bytes f.valid f.taken n f.file f.there k (omega arith)) in
        absurd (omega arith)
    by_count (yes l) =
        let x = nth_some f.file.path k l in
        let is = element_is s f.value f.bytes f.valid f.taken n f.file f.there k x.0 x.1 in
        rw is.bytes ((element_exactly x.0).0 (nth_right f.file.path k x.0 f.holds.elements x.1))

-- so are the elements from k on
elements_stay : (s : List ℕ) (n k count : ℕ) → ((j : ℕ) → j < k + count → (path_read s n j).number ≡ 0) → AllStay (elements_read s n k count)
unfolding elements_read AllStay
elements_stay s n k zero h = tt
elements_stay s n k (suc count) h = (element_stays s n k (h k (omega arith)), elements_stay s n (suc k) count (λ j l. h j (omega arith)))

-- `kd_torrent_file` and `kd_torrent_path`: a file that is answered 0 has an element or more, each answered 0
pub file_elements : (s : List ℕ) (n : ℕ) → (file_read s n).number ≡ 0 → (0 < (file_read s n).elements) × ((k : ℕ) → k < (file_read s n).elements → (path_read s n k).number ≡ 0)
file_elements s n e =
    let f = file_found s n e in
    let count = (file_is s f.value f.bytes f.valid f.taken n f.file f.there).elements in (
      omega (arith, f.holds.some_element),
      λ k l. let x = nth_some f.file.path k (omega arith) in (element_is s f.value f.bytes f.valid f.taken n f.file f.there k x.0 x.1).number,
    )

-- `kd_torrent_read`: each file of the count is answered 0
pub file_answered : (s : List ℕ) (n : ℕ) → n < (read_of s).files → (file_read s n).number ≡ 0
file_answered s n l = by_number (ℕ_discrete (checked_of s).keys.number 0)
  where
    by_number : Dec ((checked_of s).keys.number ≡ 0) → (file_read s n).number ≡ 0
    by_number (no g) = let none : (read_of s).files ≡ 0 = ap (λ (r : Torrent). r.files) (refused_read s g) in absurd (omega arith)
    by_number (yes z) =
        let taken = read_number_lem s ∙ z in
        let f = file_there s n taken (λ es bytes valid h. omega (arith, (torrent_is s es bytes valid taken).file_count)) in
        (file_is s f.value f.bytes f.valid f.taken n f.file f.there).number

-- so: every element of every path of a torrent
pub every_element_stays : (s : List ℕ) (n k : ℕ) → n < (read_of s).files → k < (file_read s n).elements → StaysInside (element_read s n k)
every_element_stays s n k l h = element_stays s n k ((file_elements s n (file_answered s n l)).1 k h)

pub path_stays : (s : List ℕ) (n : ℕ) → (file_read s n).number ≡ 0 → AllStay (file_path s n)
path_stays s n e = elements_stay s n 0 (file_read s n).elements (λ j l. (file_elements s n e).1 j (omega arith))

-- ---- no file is outside its folder

-- from any folder its path leads one step down for each element
pub file_leads_lem : (s : List ℕ) (n : ℕ) → (file_read s n).number ≡ 0 → (folder : Location) → file_leads folder s n ≡ folder ++ file_path s n
file_leads_lem s n e folder = followed folder (file_path s n) (path_stays s n e)

-- so the file is in the folder
pub file_inside : (s : List ℕ) (n : ℕ) → (file_read s n).number ≡ 0 → (folder : Location) → InFolder folder (file_leads folder s n)
unfolding elements_read
file_inside s n e folder = by_count (file_read s n).elements (file_elements s n e).0 (path_stays s n e)
  where
    by_count : (c : ℕ) → 0 < c → AllStay (elements_read s n 0 c) → InFolder folder (follow folder (to_zero (written (elements_read s n 0 c))))
    by_count zero l a = absurd (omega arith)
    by_count (suc c) l a = in_folder folder (element_read s n 0) (elements_read s n 1 c) a

-- no file of a torrent is outside
pub no_file_outside : (s : List ℕ) (n : ℕ) → n < (read_of s).files → (folder : Location) → InFolder folder (file_leads folder s n)
no_file_outside s n l folder = file_inside s n (file_answered s n l) folder

-- and no directory on the way
pub way_inside : (s : List ℕ) (n : ℕ) → (file_read s n).number ≡ 0 → (folder : Location) (k : ℕ) → walk folder (take k (file_path s n)) ≡ folder ++ take k (file_path s n)
way_inside s n e folder k = on_the_way folder (file_path s n) (path_stays s n e) k

-- ---- `kd_torrent_list`

-- an element that a record names, in a list that is done
pub list_element_stays : (s out : List ℕ) → (list_answer s out).number ≡ 0 → (n k : ℕ) → n < (read_of s).files → k < record_elements (record_at (list_after s out) n)
    → StaysInside (record_element s (record_at (list_after s out) n) k)
list_element_stays s out e n k l h =
    let is = list_record s out e n l in
    let below : k < (file_read s n).elements = omega (arith, is.elements) in
    rw (is.element_start k below, is.element_size k below) (every_element_stays s n k l below)

-- ---- the rule changes no other answer

module _ (s : List ℕ) (es : Entries) (bytes : s ≡ encode (dictionary es)) (valid : Valid (dictionary es) max_levels) (small : length s ≤ largest_torrent) where
  number_is : (read_of s).number ≡ with_halves es (value_number es)
  number_is = read_number_lem s ∙ number_is_the_values s es bytes valid small ∙ (unfold torrent_number in refl)

  -- where all path elements are right, the number of the v2 half is the one with the names left aside
  pub right_names_stand : names_right (tree_of es) ≡ true → (read_of s).number ≡ with_halves es (number_by tree_shaped es)
  right_names_stand e = number_is ∙ ap (with_halves es) (names_right_stands es e)

  -- for every torrent it is that one or 25
  pub names_give_25 : ((read_of s).number ≡ with_halves es (number_by tree_shaped es)) ⊎ ((read_of s).number ≡ wrong_tree)
  names_give_25 = elim (names_only_25 es) [ inl e ↦ inl (number_is ∙ ap (with_halves es) e) | inr e ↦ inr (number_is ∙ ap (with_halves es) e) ]

  -- and with nothing of 22 to 24 amiss it is 25, if an element of a file's path is empty, `.` or `..`, or has a `/` or a zero byte
  pub climbs_out_25 : NoneBelow25 es → (n k : ℕ) (f : File) (e : List ℕ) → Nth (files_of es) n f → Nth f.path k e → (StaysInside e → ⊥) → (read_of s).number ≡ wrong_tree
  climbs_out_25 below n k f e there at out = number_is ∙ ap (with_halves es) (climbs_out es valid below n k f e there at out)
