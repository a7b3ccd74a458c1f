-- 01, "The torrent", 19 to 28, and 02, request 12, 31: the number that is answered for any bytes at all is what `Says` says, and no other number is.
-- Assumes nothing.
use Rattle.std.specs.Prelude.{◌≡◌, ◌⊎◌, Bool, true, false, cond, not, ◌&&◌, ◌||◌, List, ℕ, zero, suc, ◌-◌, ◌≤◌, ◌<◌, length, eqb, leb}
use Rattle.std.proofs.Math.Path.{refl, ap}
use Rattle.std.proofs.Common.{sym, ◌∙◌, inl, inr, arith, eqb-true, ne_eqb, le-leb, leb-true, leb-false}
use Rattle.std.proofs.lemmas.Bool.{eqb-false}
use Rattle.limits.specs.Limits.{largest_torrent, max_levels}
use Rattle.numbers.specs.Numbers.{torrent_too_large, not_strict, nested_too_deeply, wrong_tree, two_lengths, layers_amiss, layer_differs, no_such_part, halves_differ}
use Rattle.sha256.specs.Sha256.{sha256}
use Rattle.tree.specs.Geometry.{is_piece_length}
use Rattle.bencode.specs.Grammar.{dictionary, Entries, encode, Valid}
use Rattle.bencode.specs.Parts.{lookup}
use Rattle.bencode.specs.DepthLaws.{more_levels}
use Rattle.bencode.specs.Strict.{strictness}
use Rattle.bencode.specs.StrictLaws.{taken, taken_only, deep_first, deep_only, one_of_three, otherwise, otherwise_only}
use Rattle.meaning.specs.Keys.{key_meta_version}
use Rattle.meaning.specs.Torrent.{File, is_number, info_of, tree_of, has_keys, tree_right, files_of, lengths_agree, layers_fit, no_others, layers_give_roots, plen_of, layers_of, value_number}
use Rattle.meaning.proofs.FilesLaws.{AllHold, files_hold}
use Rattle.halves.specs.Decoded.{torrent_in, torrent_in_lem}
use Rattle.halves.specs.V1Half.{is_hybrid, halves_fit, with_halves, torrent_number}
use Rattle.halves.proofs.HalvesLaws.{torrent_ranged}
use Rattle.metainfo.specs.Metainfo.{Keys, bytes_in, no_keys, keys_of, metainfo_of}
use Rattle.filetree.specs.Tree.{Listed, Files, right, listed, files_in}
use Rattle.filetree.specs.Reading.{read_files}
use Rattle.twins.specs.Twins.{layer_count}
use Rattle.joined.specs.Alike.{all_alike}
use Rattle.joined.specs.LayersMeaning.{layers_number}
use Rattle.joined.specs.KeysLaws.{KeysAt, keys_number_lem, keys_point, none_exactly}
use Rattle.metainfo.proofs.Finding.{too_large_lem, strict_keys}
use Rattle.joined.specs.StrictTorrentLaws.{keys_first, tree_next, torrent_tree, torrent_files}
use Rattle.torrent.specs.Torrent.{PartRead, FileRead, files_number, tree_number, judged_as, judged_of, unread, with_judged, v2_checked_of, checked_of, no_torrent, read_of, no_file_read, file_read, no_part_read, path_read}
use Rattle.torrent.specs.Answers.{Says, too_large, no_encoding, too_deep, encodes}

-- ---- the files by positions and the files of the value

-- 26 to 28 of the files vs with the layers ls
abbrev files_value : ℕ → Entries → List File → ℕ
files_value plen ls vs =
    cond (lengths_agree vs) (cond (layers_fit plen ls vs && no_others plen vs ls) (cond (layers_give_roots plen ls vs) 0 layer_differs) layers_amiss) two_lengths

-- 26 to 28 by positions are those of the value
files_number_lem : (t l : List ℕ) (ls : Entries) → l ≡ encode (dictionary ls) → Valid (dictionary ls) max_levels → (plen : ℕ) (fs : List Listed) (vs : List File)
    → read_files t fs ≡ vs → AllHold vs → files_number t l plen fs ≡ files_value plen ls vs
unfolding files_number
files_number_lem t l ls bytes valid plen fs vs read hold =
    rw read (ap (λ (n : ℕ). cond (lengths_agree vs) n two_lengths) (layers_number t l ls bytes valid plen fs vs (rw read at (all_alike t fs)) hold))

-- where keys and tree are right, the value's number is that of its files
from_files : (es : Entries) → (has_keys es ≡ true) × (is_number 2 (lookup key_meta_version (info_of es)) ≡ true) × (is_piece_length (plen_of es) ≡ true)
    → tree_right (tree_of es) ≡ true → value_number es ≡ files_value (plen_of es) (layers_of es) (files_of es)
unfolding value_number
from_files es h o = rw (h.0, h.1, h.2, o) refl

-- what is judged keeps its number
judged_number : (k : Keys) (n files layered : ℕ) → k.number ≡ 0 → (with_judged k (judged_as n files layered)).keys.number ≡ n
judged_number k zero files layered e = e
judged_number k (suc n) files layered e = simp (ne_eqb (suc n) 0 (λ z. omega arith))

-- the v1 half makes of what is checked what it makes of its number
half_number : (s : List ℕ) → (checked_of s).keys.number ≡ with_halves (torrent_in s) (v2_checked_of s).keys.number
unfolding checked_of
half_number s = by (eqb (v2_checked_of s).keys.number 0) refl (not (is_hybrid (torrent_in s)) || halves_fit (torrent_in s))
  where
    by : (b : Bool) → eqb (v2_checked_of s).keys.number 0 ≡ b → (t : Bool)
        → (cond b (cond t (v2_checked_of s) (unread halves_differ)) (v2_checked_of s)).keys.number ≡ cond b (cond t 0 halves_differ) (v2_checked_of s).keys.number
    by true q true = eqb-true (v2_checked_of s).keys.number 0 q
    by true q false = refl
    by false q t = refl

-- ---- 22 to 28 and 31: the number of the encoding of a value is the number of the value

module _ (s : List ℕ) (es : Entries) (start : s ≡ encode (dictionary es)) (valid : Valid (dictionary es) max_levels) where
  -- the parts that `file tree` and `piece layers` are
  abbrev t : List ℕ
  t = bytes_in s (keys_of s).tree

  abbrev l : List ℕ
  l = bytes_in s (keys_of s).layers

  -- 25 to 28, where the keys are right
  tree_number_lem : (keys_of s).number ≡ 0 → tree_number t l (keys_of s).plen (files_in t) ≡ value_number es
  unfolding tree_number
  tree_number_lem e = by_tree (right (files_in t)) refl
    where
      k : KeysAt s es (keys_of s)
      k = keys_point s es start valid e

      same_tree : right (files_in t) ≡ tree_right (tree_of es)
      same_tree = torrent_tree s es start valid e

      by_tree : (b : Bool) → right (files_in t) ≡ b → cond b (files_number t l (keys_of s).plen (listed (files_in t))) wrong_tree ≡ value_number es
      by_tree false q = sym (tree_next es (sym (keys_number_lem s es start valid) ∙ e) (sym same_tree ∙ q))
      by_tree true q =
          let fs = listed (files_in t) in
          let deep : Valid (dictionary (layers_of es)) max_levels = more_levels (dictionary (layers_of es)) (max_levels - 1) max_levels (omega arith) k.layers_valid in
          let hold = files_hold (tree_of es) k.tree_valid (sym same_tree ∙ q) in
          files_number_lem t l (layers_of es) k.layers_bytes deep (keys_of s).plen fs (files_of es) (torrent_files s es start valid e q) hold
          ∙ ap (λ (p : ℕ). files_value p (layers_of es) (files_of es)) k.plen_is
          ∙ sym (from_files es ((none_exactly s es start valid).0 e) (sym same_tree ∙ q))

  -- a torrent of at most 1 MiB that encodes a valid value gets the number of that value, by the v2 half alone
  v2_number : length s ≤ largest_torrent → (v2_checked_of s).keys.number ≡ value_number es
  unfolding v2_checked_of judged_of
  v2_number small = rw (strict_keys s small (taken s (es, valid, start))) (by_keys (eqb (keys_of s).number 0) refl)
    where
      files : Files
      files = files_in t

      plen : ℕ
      plen = (keys_of s).plen

      number : ℕ
      number = tree_number t l plen files

      by_keys : (b : Bool) → eqb (keys_of s).number 0 ≡ b
          → (cond b (with_judged (keys_of s) (judged_as number (length (listed files)) (layer_count plen (read_files t (listed files))))) (unread (keys_of s).number)).keys.number ≡ value_number es
      by_keys true q =
          let z = eqb-true (keys_of s).number 0 q in
          judged_number (keys_of s) number (length (listed files)) (layer_count plen (read_files t (listed files))) z ∙ tree_number_lem z
      by_keys false q = keys_number_lem s es start valid ∙ sym (keys_first es (λ z. eqb-false (keys_of s).number 0 q (keys_number_lem s es start valid ∙ z)))

  -- and by both
  pub number_is_the_values : length s ≤ largest_torrent → (checked_of s).keys.number ≡ torrent_number es
  number_is_the_values small = half_number s ∙ ap (λ (x : Entries). with_halves x (v2_checked_of s).keys.number) (torrent_in_lem s es valid start) ∙ by_value
    where
      by_value : with_halves es (v2_checked_of s).keys.number ≡ torrent_number es
      by_value = unfold torrent_number in ap (with_halves es) (v2_number small)

-- ---- 19 to 21, and all of them together

-- a refusal by what comes before the tree is the answer
v2_refused : (s : List ℕ) (n : ℕ) → metainfo_of s ≡ no_keys n → (n ≡ 0 → ⊥) → (v2_checked_of s).keys.number ≡ n
unfolding v2_checked_of
v2_refused s n e h = rw e (rw (ne_eqb n 0 h) refl)

checked_refused : (s : List ℕ) (n : ℕ) → metainfo_of s ≡ no_keys n → (n ≡ 0 → ⊥) → (checked_of s).keys.number ≡ n
checked_refused s n e h =
    let v : (v2_checked_of s).keys.number ≡ n = v2_refused s n e h in
    half_number s ∙ rw v (rw (ne_eqb n 0 h) refl)

-- bytes that are not strict
broken_keys : (s : List ℕ) (n : ℕ) → length s ≤ largest_torrent → strictness s ≡ suc n → metainfo_of s ≡ no_keys (suc n)
unfolding metainfo_of
broken_keys s n h e = rw (le-leb (length s) largest_torrent h, e) refl

-- so it is of the number that is answered, whatever the bytes are
pub torrent_number_lem : (s : List ℕ) → Says s (checked_of s).keys.number
torrent_number_lem s = by_size (leb (length s) largest_torrent) refl
  where
    by_strict : length s ≤ largest_torrent → (strictness s ≡ 0) ⊎ ((strictness s ≡ not_strict) ⊎ (strictness s ≡ nested_too_deeply)) → Says s (checked_of s).keys.number
    by_strict h (inl e) = let v = taken_only s e in encodes h v.0 v.1 v.2 (number_is_the_values s v.0 v.2 v.1 h)
    by_strict h (inr (inl e)) = let o = otherwise_only s e in no_encoding h o.0 o.1 (checked_refused s not_strict (broken_keys s 19 h e) (λ z. omega arith))
    by_strict h (inr (inr e)) = too_deep h (deep_first s e) (checked_refused s nested_too_deeply (broken_keys s 20 h e) (λ z. omega arith))

    by_size : (b : Bool) → leb (length s) largest_torrent ≡ b → Says s (checked_of s).keys.number
    by_size true e = by_strict (leb-true (length s) largest_torrent e) (one_of_three s)
    by_size false e = let h = leb-false (length s) largest_torrent e in too_large h (checked_refused s torrent_too_large (too_large_lem s h) (λ z. omega arith))

-- and of no other number
pub no_other_number : (s : List ℕ) (n : ℕ) → Says s n → n ≡ (checked_of s).keys.number
no_other_number s n (too_large h e) = e ∙ sym (checked_refused s torrent_too_large (too_large_lem s h) (λ z. omega arith))
no_other_number s n (no_encoding h a b e) = e ∙ sym (checked_refused s not_strict (broken_keys s 19 h (otherwise s a b)) (λ z. omega arith))
no_other_number s n (too_deep h d e) = e ∙ sym (checked_refused s nested_too_deeply (broken_keys s 20 h (deep_only s d)) (λ z. omega arith))
no_other_number s n (encodes h es v b e) = e ∙ sym (number_is_the_values s es b v h)

-- ---- 19, 20 and 21 only then

-- every other number, 0 among them, is what 01 and 02 say of the value that the bytes encode
pub value_only : (s : List ℕ) → ((checked_of s).keys.number ≡ 0) ⊎ (22 ≤ (checked_of s).keys.number)
    → (length s ≤ largest_torrent) × ((es : Entries) × Valid (dictionary es) max_levels × (s ≡ encode (dictionary es)) × ((checked_of s).keys.number ≡ torrent_number es))
value_only s e = by_case (torrent_number_lem s)
  where
    other : (n : ℕ) → (checked_of s).keys.number ≡ n → 0 < n → n < 22 → ⊥
    other n q l h = elim e [ inl z ↦ omega arith | inr z ↦ omega arith ]

    by_case : Says s (checked_of s).keys.number → (length s ≤ largest_torrent) × ((es : Entries) × Valid (dictionary es) max_levels × (s ≡ encode (dictionary es)) × ((checked_of s).keys.number ≡ torrent_number es))
    by_case (too_large h q) = absurd (other torrent_too_large q (omega arith) (omega arith))
    by_case (no_encoding h a b q) = absurd (other not_strict q (omega arith) (omega arith))
    by_case (too_deep h d q) = absurd (other nested_too_deeply q (omega arith) (omega arith))
    by_case (encodes h es v b q) = (h, (es, v, b, q))

-- ---- 29 is not among them

value_other : (es : Entries) → torrent_number es ≡ no_such_part → ⊥
value_other es q = elim (torrent_ranged es) [ inl z ↦ omega arith | inr w ↦ elim w [ inl p ↦ (let w = p.1 in omega arith) | inr z ↦ omega arith ] ]

-- 29 is never the number of the torrent itself
number_other : (s : List ℕ) → (checked_of s).keys.number ≡ no_such_part → ⊥
number_other s e = by_case (torrent_number_lem s)
  where
    by_case : Says s (checked_of s).keys.number → ⊥
    by_case (too_large h q) = omega arith
    by_case (no_encoding h a b q) = omega arith
    by_case (too_deep h d q) = omega arith
    by_case (encodes h es v b q) = value_other es (sym q ∙ e)

-- ---- the same number from every call

-- the torrent is answered with that number
pub read_number_lem : (s : List ℕ) → (read_of s).number ≡ (checked_of s).keys.number
unfolding read_of
read_number_lem s = by_number (eqb (checked_of s).keys.number 0) refl
  where
    by_number : (b : Bool) → eqb (checked_of s).keys.number 0 ≡ b
        → (cond b (record { number = 0; hash = sha256 (bytes_in s (checked_of s).keys.info); plen = (checked_of s).keys.plen; files = (checked_of s).files }) (no_torrent (checked_of s).keys.number)).number ≡ (checked_of s).keys.number
    by_number true q = sym (eqb-true (checked_of s).keys.number 0 q)
    by_number false q = refl

-- so what the number says of the bytes is so of the number that is read
pub read_says : (s : List ℕ) → Says s (read_of s).number
read_says s = rw (read_number_lem s) (torrent_number_lem s)

-- 0 is read only from the encoding of a valid dictionary, of at most 1 MiB, of which 01 and 02 say 0
pub read_encodes : (s : List ℕ) → (read_of s).number ≡ 0 → (length s ≤ largest_torrent) × ((es : Entries) × Valid (dictionary es) max_levels × (s ≡ encode (dictionary es)) × (torrent_number es ≡ 0))
read_encodes s e =
    let z = sym (read_number_lem s) ∙ e in
    let v = value_only s (inl z) in
    (v.0, (v.1.0, v.1.1, v.1.2, sym v.1.3 ∙ z))

-- a refused torrent is answered with its number beside zeros
pub refused_read : (s : List ℕ) → ((checked_of s).keys.number ≡ 0 → ⊥) → read_of s ≡ no_torrent (checked_of s).keys.number
unfolding read_of
refused_read s h = rw (ne_eqb (checked_of s).keys.number 0 h) refl

-- so is every file of it
pub refused_file : (s : List ℕ) (n : ℕ) → ((checked_of s).keys.number ≡ 0 → ⊥) → file_read s n ≡ no_file_read (checked_of s).keys.number
unfolding file_read
refused_file s n h = rw (ne_eqb (checked_of s).keys.number 0 h) refl

-- and every path element
pub refused_path : (s : List ℕ) (n k : ℕ) → ((checked_of s).keys.number ≡ 0 → ⊥) → path_read s n k ≡ no_part_read (checked_of s).keys.number
unfolding path_read
refused_path s n k h = rw (ne_eqb (checked_of s).keys.number 0 h) refl

-- so 29 for a file is after all of 19 to 28 and 31: the torrent itself is read with 0
pub file_29_after : (s : List ℕ) (n : ℕ) → (file_read s n).number ≡ no_such_part → (read_of s).number ≡ 0
file_29_after s n e = by_number (eqb (checked_of s).keys.number 0) refl
  where
    by_number : (b : Bool) → eqb (checked_of s).keys.number 0 ≡ b → (read_of s).number ≡ 0
    by_number true q = read_number_lem s ∙ eqb-true (checked_of s).keys.number 0 q
    by_number false q =
        let f : (file_read s n).number ≡ (checked_of s).keys.number = ap (λ (z : FileRead). z.number) (refused_file s n (eqb-false (checked_of s).keys.number 0 q)) in
        absurd (number_other s (sym f ∙ e))

-- and so it is for a path element
pub path_29_after : (s : List ℕ) (n k : ℕ) → (path_read s n k).number ≡ no_such_part → (read_of s).number ≡ 0
path_29_after s n k e = by_number (eqb (checked_of s).keys.number 0) refl
  where
    by_number : (b : Bool) → eqb (checked_of s).keys.number 0 ≡ b → (read_of s).number ≡ 0
    by_number true q = read_number_lem s ∙ eqb-true (checked_of s).keys.number 0 q
    by_number false q =
        let f : (path_read s n k).number ≡ (checked_of s).keys.number = ap (λ (z : PartRead). z.number) (refused_path s n k (eqb-false (checked_of s).keys.number 0 q)) in
        absurd (number_other s (sym f ∙ e))
