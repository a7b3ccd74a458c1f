-- 01, "Numbers given back" and "The torrent", for the calls that read a torrent: each number by entry point, exactly when it is given. What a
-- number says of the bytes is `torrent`'s `Says`; files and path elements are counted from 0.
-- (The numbers of the calls on a store: crates/promises, file EachNumber; those of kd_torrent_write: crates/writer_promises.)
-- Assumes nothing.
use Rattle.std.specs.Prelude.{◌≡◌, ◌⊎◌, ◌↔◌, List, ℕ, ◌*◌, ◌≤◌, ◌<◌, length}
use Rattle.std.proofs.Math.Path.{refl}
use Rattle.std.proofs.Common.{sym, ap, ◌∙◌, inl, inr, arith, ne_eqb, lt-ltb, le-ltb}
use Rattle.std.proofs.Math.Decide.{dec_lt, ℕ_discrete}
use Rattle.limits.specs.Limits.{largest_torrent, max_levels}
use Rattle.numbers.specs.Numbers.{key_missing, layer_differs, no_room, no_such_part}
use Rattle.bencode.specs.Grammar.{dictionary, Entries, encode, Valid}
use Rattle.meaning.specs.Nth.{Nth}
use Rattle.meaning.proofs.NthLaws.{nth_some}
use Rattle.meaning.specs.Torrent.{File, files_of, value_number}
use Rattle.halves.specs.V1Half.{torrent_number}
use Rattle.halves.proofs.HalvesLaws.{lower_exactly}
use Rattle.torrent.specs.Torrent.{PartRead, FileRead, checked_of, read_of, file_read, path_read}
use Rattle.torrent.specs.Answers.{Says, too_large, no_encoding, too_deep, encodes}
use Rattle.torrent.specs.NumberMeans.{read_number_lem, read_says, no_other_number, read_encodes, refused_file, refused_path, file_29_after, path_29_after}
use Rattle.torrent.specs.ReadMeans.{torrent_is, file_is, no_file, no_file_only, no_element, no_element_only, no_path}
use Rattle.catalogue.specs.Catalogue.{record_size, list_answer}
use Rattle.calls.specs.CallsLaws.{checked_ranged, of_torrent}
use Rattle.calls.specs.InsideLaws.{file_elements, file_answered}

-- ---- kd_torrent_read: 19 to 28 and 31, the lowest, or 0

-- 19: above 1 MiB; 20, 21: not strict bencoding, deeper than 32, whichever comes first from the left; 22 to 28, then 31: what 01 and 02 say
-- of the value, the lowest; 0 otherwise
pub read_exactly : (s : List ℕ) (n : ℕ) → ((read_of s).number ≡ n) ↔ Says s n
read_exactly s n = (λ e. rw e at (read_says s), λ w. read_number_lem s ∙ sym (no_other_number s n w))

-- 22 to 28, each: s is at most 1 MiB and the strict encoding of a dictionary that has this number by the v2 half, hybrid or not. What the number says of
-- the dictionary: `exactly_22` to `exactly_28`, crates/meaning, file AmissLaws
pub read_22_to_28 : (s : List ℕ) (n : ℕ) → key_missing ≤ n → n ≤ layer_differs
    → ((read_of s).number ≡ n) ↔ ((length s ≤ largest_torrent) × ((es : Entries) × Valid (dictionary es) max_levels × (s ≡ encode (dictionary es)) × (value_number es ≡ n)))
read_22_to_28 s n l h = (λ e. said ((read_exactly s n).0 e), λ w. (read_exactly s n).1 (encodes w.0 w.1.0 w.1.1 w.1.2 (sym ((lower w.1.0).1 w.1.3))))
  where
    lower : (es : Entries) → (torrent_number es ≡ n) ↔ (value_number es ≡ n)
    lower es = lower_exactly es n (omega arith) h

    said : Says s n → (length s ≤ largest_torrent) × ((es : Entries) × Valid (dictionary es) max_levels × (s ≡ encode (dictionary es)) × (value_number es ≡ n))
    said (too_large g e) = absurd (omega arith)
    said (no_encoding g a b e) = absurd (omega arith)
    said (too_deep g d e) = absurd (omega arith)
    said (encodes g es v b e) = (g, (es, v, b, (lower es).0 (sym e)))

-- ---- what stands in a torrent that is answered 0

module _ (s : List ℕ) (taken : (read_of s).number ≡ 0) where
  abbrev value : Entries
  value = (read_encodes s taken).1.0

  valid : Valid (dictionary value) max_levels
  valid = (read_encodes s taken).1.1

  bytes : s ≡ encode (dictionary value)
  bytes = (read_encodes s taken).1.2

  count : (read_of s).files ≡ length (files_of value)
  count = (torrent_is s value bytes valid taken).file_count

  -- file n, and how many elements are answered of it
  file_at : (n : ℕ) → n < (read_of s).files → (v : File) × Nth (files_of value) n v × ((file_read s n).elements ≡ length v.path)
  file_at n l = let v = nth_some (files_of value) n (omega (arith, count)) in (v.0, v.1, (file_is s value bytes valid taken n v.0 v.1).elements)

  -- 29 where there is no file n
  past_files : (n : ℕ) → (read_of s).files ≤ n → (file_read s n).number ≡ no_such_part
  past_files n l = ap (λ (r : FileRead). r.number) (no_file s value bytes valid taken n (omega (arith, count)))

  past_files_only : (n : ℕ) → (file_read s n).number ≡ no_such_part → (read_of s).files ≤ n
  past_files_only n e = omega (arith, count, no_file_only s value bytes valid taken n e)

  -- 29 for its path elements, and where the path of file n has no element k
  past_paths : (n k : ℕ) → (read_of s).files ≤ n → (path_read s n k).number ≡ no_such_part
  past_paths n k l = ap (λ (r : PartRead). r.number) (no_path s value bytes valid taken n k (omega (arith, count)))

  past_elements : (n k : ℕ) → n < (read_of s).files → (file_read s n).elements ≤ k → (path_read s n k).number ≡ no_such_part
  past_elements n k l h =
      let v = file_at n l in
      let m = v.2 in
      ap (λ (r : PartRead). r.number) (no_element s value bytes valid taken n v.0 v.1 k (omega arith))

  past_elements_only : (n k : ℕ) → n < (read_of s).files → (path_read s n k).number ≡ no_such_part → (file_read s n).elements ≤ k
  past_elements_only n k l e =
      let v = file_at n l in
      let m = v.2 in
      omega (arith, no_element_only s value bytes valid taken n v.0 v.1 k e)

-- ---- kd_torrent_file: 29, and else the torrent's own number

module _ (s : List ℕ) (n : ℕ) where
  -- no file of that number; after all of 19 to 28 and 31
  pub file_29 : ((file_read s n).number ≡ no_such_part) ↔ (((read_of s).number ≡ 0) × ((read_of s).files ≤ n))
  file_29 = (λ e. let z = file_29_after s n e in (z, past_files_only s z n e), λ p. past_files s p.0 n p.1)

  -- every other number is that of kd_torrent_read
  pub file_number : ((file_read s n).number ≡ no_such_part → ⊥) → (file_read s n).number ≡ (read_of s).number
  file_number h = by_number (ℕ_discrete (checked_of s).keys.number 0)
    where
      by_file : (read_of s).number ≡ 0 → Dec (n < (read_of s).files) → (file_read s n).number ≡ (read_of s).number
      by_file z (yes l) = file_answered s n l ∙ sym z
      by_file z (no g) = absurd (h (past_files s z n (omega arith)))

      by_number : Dec ((checked_of s).keys.number ≡ 0) → (file_read s n).number ≡ (read_of s).number
      by_number (yes z) = by_file (read_number_lem s ∙ z) (dec_lt n (read_of s).files)
      by_number (no g) = ap (λ (r : FileRead). r.number) (refused_file s n g) ∙ sym (read_number_lem s)

-- ---- kd_torrent_path: 29, and else the torrent's own number

module _ (s : List ℕ) (n k : ℕ) where
  -- no file, or no path element, of that number; after all of 19 to 28 and 31
  pub path_29 : ((path_read s n k).number ≡ no_such_part) ↔ (((read_of s).number ≡ 0) × (((read_of s).files ≤ n) ⊎ ((file_read s n).elements ≤ k)))
  path_29 = (λ e. let z = path_29_after s n k e in (z, none z e (dec_lt n (read_of s).files)), λ p. given p.0 (dec_lt n (read_of s).files) p.1)
    where
      none : (read_of s).number ≡ 0 → (path_read s n k).number ≡ no_such_part → Dec (n < (read_of s).files) → ((read_of s).files ≤ n) ⊎ ((file_read s n).elements ≤ k)
      none z e (yes l) = inr (past_elements_only s z n k l e)
      none z e (no g) = inl (omega arith)

      given : (read_of s).number ≡ 0 → Dec (n < (read_of s).files) → ((read_of s).files ≤ n) ⊎ ((file_read s n).elements ≤ k) → (path_read s n k).number ≡ no_such_part
      given z (no g) w = past_paths s z n k (omega arith)
      given z (yes l) (inl h) = past_paths s z n k h
      given z (yes l) (inr h) = past_elements s z n k l h

  -- every other number is that of kd_torrent_read
  pub path_number : ((path_read s n k).number ≡ no_such_part → ⊥) → (path_read s n k).number ≡ (read_of s).number
  path_number h = by_number (ℕ_discrete (checked_of s).keys.number 0)
    where
      by_place : (read_of s).number ≡ 0 → Dec (n < (read_of s).files) → Dec (k < (file_read s n).elements) → (path_read s n k).number ≡ (read_of s).number
      by_place z (yes l) (yes m) = (file_elements s n (file_answered s n l)).1 k m ∙ sym z
      by_place z (yes l) (no g) = absurd (h (past_elements s z n k l (omega arith)))
      by_place z (no g) d = absurd (h (past_paths s z n k (omega arith)))

      by_number : Dec ((checked_of s).keys.number ≡ 0) → (path_read s n k).number ≡ (read_of s).number
      by_number (yes z) = by_place (read_number_lem s ∙ z) (dec_lt n (read_of s).files) (dec_lt k (file_read s n).elements)
      by_number (no g) = ap (λ (r : PartRead). r.number) (refused_path s n k g) ∙ sym (read_number_lem s)

-- ---- kd_torrent_list: 11, and else the torrent's own number

module _ (s out : List ℕ) where
  -- of a torrent that is refused
  list_as_torrent : ((checked_of s).keys.number ≡ 0 → ⊥) → (list_answer s out).number ≡ (checked_of s).keys.number
  unfolding list_answer
  list_as_torrent g = rw (ne_eqb (checked_of s).keys.number 0 g) refl

  -- of another: by the room
  list_short : (checked_of s).keys.number ≡ 0 → length out < record_size * (checked_of s).files → (list_answer s out).number ≡ no_room
  unfolding list_answer
  list_short z l = rw (z, lt-ltb (length out) (record_size * (checked_of s).files) l) refl

  list_fits : (checked_of s).keys.number ≡ 0 → record_size * (checked_of s).files ≤ length out → (list_answer s out).number ≡ 0
  unfolding list_answer
  list_fits z l = rw (z, le-ltb (length out) (record_size * (checked_of s).files) l) refl

  files_same : (checked_of s).keys.number ≡ 0 → (read_of s).files ≡ (checked_of s).files
  unfolding read_of
  files_same z = rw z refl

  -- output shorter than the reply, a record of `record_size` bytes for each file; after all of 19 to 28 and 31
  pub list_11 : ((list_answer s out).number ≡ no_room) ↔ (((read_of s).number ≡ 0) × (length out < record_size * (read_of s).files))
  list_11 = (
    λ e. by_number e (ℕ_discrete (checked_of s).keys.number 0),
    λ p. let z = sym (read_number_lem s) ∙ p.0 in list_short z (rw (files_same z) at p.1),
  )
    where
      by_room : (list_answer s out).number ≡ no_room → (checked_of s).keys.number ≡ 0 → Dec (length out < record_size * (checked_of s).files)
          → ((read_of s).number ≡ 0) × (length out < record_size * (read_of s).files)
      by_room e z (yes l) = (read_number_lem s ∙ z, rw (files_same z) l)
      by_room e z (no g) = let f = list_fits z (omega arith) in absurd (omega arith)

      by_number : (list_answer s out).number ≡ no_room → Dec ((checked_of s).keys.number ≡ 0) → ((read_of s).number ≡ 0) × (length out < record_size * (read_of s).files)
      by_number e (yes z) = by_room e z (dec_lt (length out) (record_size * (checked_of s).files))
      by_number e (no g) =
          let q = list_as_torrent g in
          let w : ⊥ = elim (checked_ranged s) [ inl z ↦ g z | inr p ↦ (let x = (of_torrent (checked_of s).keys.number p).0 in omega arith) ] in
          absurd w

  -- every other number is that of kd_torrent_read
  pub list_number : ((list_answer s out).number ≡ no_room → ⊥) → (list_answer s out).number ≡ (read_of s).number
  list_number h = by_number (ℕ_discrete (checked_of s).keys.number 0)
    where
      by_room : (checked_of s).keys.number ≡ 0 → Dec (length out < record_size * (checked_of s).files) → (list_answer s out).number ≡ (read_of s).number
      by_room z (yes l) = absurd (h (list_short z l))
      by_room z (no g) = list_fits z (omega arith) ∙ sym (read_number_lem s ∙ z)

      by_number : Dec ((checked_of s).keys.number ≡ 0) → (list_answer s out).number ≡ (read_of s).number
      by_number (yes z) = by_room z (dec_lt (length out) (record_size * (checked_of s).files))
      by_number (no g) = list_as_torrent g ∙ sym (read_number_lem s)
