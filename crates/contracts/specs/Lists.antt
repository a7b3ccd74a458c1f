-- What kd_torrent_list writes is a list in the form that kd_place and kd_first_piece ask for, with a record for each file of the torrent: so neither
-- answers 4 to it.
-- Assumes nothing.
use Rattle.std.specs.Prelude.{◌≡◌, Bool, ◌&&◌, ℕ, zero, suc, ◌+◌, ◌*◌, ◌%◌, ◌≤◌, ◌<◌, eqb, ltb, List, ◌++◌}
use Rattle.std.proofs.Math.Path.{refl, ap, sym, subst}
use Rattle.std.proofs.Common.{ap₂, ◌∙◌, append_assoc, arith, eq-eqb, eqb-true, le-leb, ltb-false}
use Rattle.std.proofs.Math.Bool.{true, false}
use Rattle.std.proofs.lemmas.Bool.{false≢true, eqb-false}
use Rattle.std.proofs.Math.ListN.{length}
use Rattle.octets.specs.Octets.{cut, be, pasted, number_at}
use Rattle.octets.specs.OctetsLaws.{cut_pasted_same, number_cut, number_first}
use Rattle.numbers.specs.Numbers.{wrong_size, no_room}
use Rattle.limits.specs.Limits.{longest_file, largest_torrent}
use Rattle.metainfo.specs.Metainfo.{bytes_in}
use Rattle.filetree.specs.Tree.{max_elements, Listed, listed, file_number, files_in as files_of_tree}
use Rattle.filetree.specs.FilesLaws.{files_right, number_right}
use Rattle.layers.specs.Layers.{root_bytes, layer_string, start_of, size_of}
use Rattle.torrent.specs.Torrent.{checked_of}
use Rattle.torrent.specs.CheckLaws.{Whole, checked_whole}
use Rattle.catalogue.specs.Catalogue.{part_bytes, head_bytes, elements_bytes, Parts, record_of, records_of, record_size, parts_of, list_answer, list_after}
use Rattle.catalogue.proofs.CatalogueLaws.{records_length, record_at, few_files}
use Rattle.places.specs.Places.{files_in, length_of, lengths_right, list_right, place_answer, first_answer}
use Rattle.places.proofs.Where.{place_4, first_4}

-- the list that is written: the bytes of the output that the answer counts
abbrev pub written : List ℕ → List ℕ → List ℕ
written s out = cut (list_after s out) 0 (list_answer s out).count

-- ---- a record begins with its file's length

to_the_right : (a b c d e f : List ℕ) → a ++ b ++ c ++ d ++ e ++ f ≡ a ++ (b ++ (c ++ (d ++ (e ++ f))))
to_the_right a b c d e f =
    append_assoc (a ++ b ++ c ++ d) e f ∙ append_assoc (a ++ b ++ c) d (e ++ f) ∙ append_assoc (a ++ b) c (d ++ (e ++ f)) ∙ append_assoc a b (c ++ (d ++ (e ++ f)))

record_begins : (p : Parts) (f : Listed) → f.size ≤ longest_file → number_at (record_of p f) 0 8 ≡ f.size
unfolding record_of head_bytes
record_begins p f l =
    let root = root_bytes p.t f.size f.root in
    let layer = layer_string p.l p.plen f.size (cut p.t f.root 32) in
    let part = part_bytes (start_of p.layers layer) (size_of layer) in
    let rest = elements_bytes p.tree f.path max_elements in
    ap (λ (x : List ℕ). number_at x 0 8) (to_the_right (be 8 f.size) root part (be 4 (length f.path)) (be 4 0) rest)
    ∙ number_first 8 f.size (root ++ (part ++ (be 4 (length f.path) ++ (be 4 0 ++ rest)))) (omega arith)

-- ---- lengths in range, one by one

all_lengths : (list : List ℕ) (n c : ℕ) → ((k : ℕ) → k < c → length_of list (n + k) ≤ longest_file) → lengths_right list n c ≡ true
unfolding lengths_right
all_lengths list n zero h = refl
all_lengths list n (suc c) h =
    let z : n + 0 ≡ n = omega arith in
    let first : length_of list n ≤ longest_file = subst (λ (k : ℕ). length_of list k ≤ longest_file) z (h 0 (omega arith)) in
    ap₂ (λ (a b : Bool). a && b) (le-leb (length_of list n) longest_file first)
    (all_lengths list (suc n) c (λ k l. (let e : n + suc k ≡ suc n + k = omega arith in subst (λ (j : ℕ). length_of list j ≤ longest_file) e (h (suc k) (omega arith)))))

-- ---- the records of a torrent's files

module _ (p : Parts) (t : List ℕ) (same : p.t ≡ t) (few : length (listed (files_of_tree t)) ≤ largest_torrent) where
  abbrev files : List Listed
  files = listed (files_of_tree t)

  abbrev all : List ℕ
  all = records_of p (listed (files_of_tree t))

  long : length all ≡ record_size * length files
  long = records_length p files (rw same (files_right t))

  many : files_in all ≡ length files
  many = omega (arith, long)

  length_small : (n : ℕ) → n < length files → length_of all n ≤ longest_file
  unfolding length_of
  length_small n l =
      let z : record_size * n + 0 ≡ record_size * n = omega arith in
      let f = file_number files n in
      let small = (number_right (length t) files n (files_right t) l).small in
      let e : number_at all (record_size * n) 8 ≡ f.size =
      ap (λ (k : ℕ). number_at all k 8) (sym z) ∙ sym (number_cut all (record_size * n) record_size 0 8 (omega arith))
      ∙ ap (λ (x : List ℕ). number_at x 0 8) (record_at p files (rw same (files_right t)) n l) ∙ record_begins p f small in
      omega arith

  formed : list_right all ≡ true
  unfolding list_right
  formed =
      let w : length all % record_size ≡ 0 = omega (arith, long) in
      rw (
        eq-eqb (length all % record_size) 0 w,
        le-leb (files_in all) largest_torrent (omega (arith, many)),
        all_lengths all 0 (files_in all) (λ k l. (let z : k ≡ 0 + k = omega arith in subst (λ (j : ℕ). length_of all j ≤ longest_file) z (length_small k (omega (arith, many))))),
      )
      refl

-- ---- a list that was written

module _ (s out : List ℕ) (answered : (list_answer s out).number ≡ 0) where
  abbrev t : List ℕ
  t = bytes_in s (checked_of s).keys.tree

  abbrev records : List ℕ
  records = records_of (parts_of s (checked_of s).keys) (listed (files_of_tree (bytes_in s (checked_of s).keys.tree)))

  record Done : Type 0 where
    pub number : (checked_of s).keys.number ≡ 0
    pub room : record_size * (checked_of s).files ≤ length out
    pub count : (list_answer s out).count ≡ record_size * (checked_of s).files
    pub after : list_after s out ≡ pasted out 0 records

  is_done : Done
  is_done = by (eqb (checked_of s).keys.number 0) refl (ltb (length out) (record_size * (checked_of s).files)) refl
    where
      by : (b : Bool) → eqb (checked_of s).keys.number 0 ≡ b → (c : Bool) → ltb (length out) (record_size * (checked_of s).files) ≡ c → Done
      by true q false r =
          record {
            number = eqb-true (checked_of s).keys.number 0 q;
            room = ltb-false (length out) (record_size * (checked_of s).files) r;
            count = unfold list_answer in rw (q, r) refl;
            after = unfold list_after in rw (q, r) refl;
          }
      by true q true r = let z : (list_answer s out).number ≡ no_room = unfold list_answer in rw (q, r) refl in absurd (omega arith)
      by false q c r =
          let z : (list_answer s out).number ≡ (checked_of s).keys.number = unfold list_answer in rw q refl in
          absurd (eqb-false (checked_of s).keys.number 0 q (sym z ∙ answered))

  whole : Whole s (checked_of s)
  whole = checked_whole s is_done.number

  few : length (listed (files_of_tree t)) ≤ largest_torrent
  few = omega (arith, few_files s (checked_of s) whole, whole.all_files)

  size_is : length records ≡ record_size * (checked_of s).files
  size_is = long (parts_of s (checked_of s).keys) t refl few ∙ ap (λ (n : ℕ). record_size * n) (sym whole.all_files)

  written_is : written s out ≡ records
  written_is =
      ap₂ (λ (x : List ℕ) (n : ℕ). cut x 0 n) is_done.after (is_done.count ∙ sym size_is)
      ∙ cut_pasted_same out 0 records (length records) refl (omega (arith, size_is, is_done.room))

  -- IN THE FORM that kd_place asks for,
  pub list_in_form : list_right (written s out) ≡ true
  list_in_form = ap list_right written_is ∙ formed (parts_of s (checked_of s).keys) t refl few

  -- so neither call answers 4 to it
  pub placed_never_4 : (plen piece : ℕ) → (place_answer (written s out) plen piece).number ≡ wrong_size → ⊥
  placed_never_4 plen piece e = false≢true (sym ((place_4 (written s out) plen piece).0 e) ∙ list_in_form)

  pub first_never_4 : (plen file : ℕ) → (first_answer (written s out) plen file).number ≡ wrong_size → ⊥
  first_never_4 plen file e = false≢true (sym ((first_4 (written s out) plen file).0 e) ∙ list_in_form)
