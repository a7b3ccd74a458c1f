-- A v1 half that fits: its entries by its keys, its files, and where `pieces` stands.
-- Assumes nothing.
use Rattle.std.specs.Prelude.{◌≡◌, refl, Bool, true, false, cond, not, ◌&&◌, List, [], ◌∷◌, ℕ, zero, suc, ◌+◌, ◌-◌, ◌*◌, ◌≤◌, length, drop, eqb, Some, Option, None}
use Rattle.std.proofs.Common.{sym, ap, ◌∙◌, arith, eqb-true}
use Rattle.std.proofs.lemmas.Bool.{false≢true}
use Rattle.std.proofs.Math.Bool.{and-eq-true_iff}
use Rattle.torrent.specs.KeyStringLaws.{string_at, other_at}
use Rattle.octets.specs.Octets.{cut}
use Rattle.tree.specs.Geometry.{piece_count}
use Rattle.bencode.specs.Grammar.{Value, integer, string, list, dictionary, Items, Entries}
use Rattle.bencode.specs.Scalar.{read_string}
use Rattle.bencode.specs.EndsLaws.{string_ends}
use Rattle.bencode.specs.Parts.{Lookup, absent, present, lookup, find_key}
use Rattle.bencode.specs.declared.part.Part.{Part}
use Rattle.meaning.specs.Keys.{key_length}
use Rattle.meaning.specs.Nth.{Nth}
use Rattle.meaning.specs.Torrent.{File, is_natural, number_of, info_of, plen_of, files_of}
use Rattle.halves.specs.V1Keys.{key_pieces, key_files, key_name}
use Rattle.halves.specs.V1Half.{V1Entry, is_there, has_string, bytes_of, string_or_none, items_fit, entries_in, list_fits, list_entries, one_file, half_fits, v1_entries, total, same_path, files_among, same_files, on_boundary, pieces_fit, entries_of_half, halves_fit}
use Rattle.halves.specs.Stream.{file_start}
use Rattle.hybrid.specs.Entry.{StandsAt, natural_in}
use Rattle.hybrid.specs.EntryLaws.{FoundHere, nothing, value, found_here}
use Rattle.layers.specs.Layers.{string_in}
use Rattle.v1.specs.Place.{file_size}
use Rattle.v1.specs.V1.{pieces_in, pieces_from}

-- ---- `pieces` of the dictionary at `at`

pub pieces_found : (s : List ℕ) (at : ℕ) (w : Option Part) → find_key key_pieces at (drop at s) ≡ w → string_in s w ≡ pieces_from s at
unfolding pieces_from
pieces_found s at w e = sym (ap (string_in s) e)

-- what is read of the value of a key: a string's content within the bytes, and for all else nothing
abbrev pub PiecesAre : List ℕ → Lookup → Option Part → Type 0
PiecesAre s x None = has_string x ≡ false
PiecesAre s x (Some w) = (has_string x ≡ true) × (cut s w.start (w.end - w.start) ≡ bytes_of x) × (w.start ≤ w.end) × (w.end ≤ length s)

value_read : (s : List ℕ) (a : ℕ) (x : Value) → StandsAt s a x → (r : Option Part) → read_string a (drop a s) ≡ r → PiecesAre s (present x) r
value_read s a x w None e = other_at s a x w e
value_read s a x w (Some r) e = let p = string_ends a s r.start r.end e in let q = string_at s a x w r.start r.end e in (q.0, q.1, p.1, p.2)

found_read : (s : List ℕ) (f : Option Part) (x : Lookup) → FoundHere s f x → PiecesAre s x (string_in s f)
found_read s f x nothing = refl
found_read s f x (value a b v w) = value_read s a v w (read_string a (drop a s)) refl

pub pieces_are : (s : List ℕ) (at : ℕ) (info : Entries) → StandsAt s at (dictionary info) → PiecesAre s (lookup key_pieces info) (pieces_from s at)
unfolding pieces_from
pieces_are s at info w = found_read s (find_key key_pieces at (drop at s)) (lookup key_pieces info) (found_here s key_pieces at info w)

-- ---- what the halves of a hybrid are

pub record Halves (torrent : Entries) : Type 0 where
  pub fits : half_fits (info_of torrent) ≡ true
  pub same : same_files (files_among (entries_of_half torrent)) (files_of torrent) ≡ true
  pub boundary : on_boundary (plen_of torrent) 0 (entries_of_half torrent) ≡ true
  pub a_string : has_string (lookup key_pieces (info_of torrent)) ≡ true
  pub twenty_each : length (pieces_in torrent) ≡ 20 * piece_count (total (entries_of_half torrent)) (plen_of torrent)

pub halves_are : (torrent : Entries) → halves_fit torrent ≡ true → Halves torrent
unfolding halves_fit
halves_are torrent e =
    let x = lookup key_pieces (info_of torrent) in
    let n = 20 * piece_count (total (entries_of_half torrent)) (plen_of torrent) in
    let p = (and-eq-true_iff (half_fits (info_of torrent)) (same_files (files_among (entries_of_half torrent)) (files_of torrent) && (on_boundary (plen_of torrent) 0 (entries_of_half torrent) && pieces_fit (plen_of torrent) (total (entries_of_half torrent)) x))).0 e in
    let q = (and-eq-true_iff (same_files (files_among (entries_of_half torrent)) (files_of torrent)) (on_boundary (plen_of torrent) 0 (entries_of_half torrent) && pieces_fit (plen_of torrent) (total (entries_of_half torrent)) x)).0 p.1 in
    let r = (and-eq-true_iff (on_boundary (plen_of torrent) 0 (entries_of_half torrent)) (pieces_fit (plen_of torrent) (total (entries_of_half torrent)) x)).0 q.1 in
    let t = (and-eq-true_iff (has_string x) (eqb (length (bytes_of x)) n)).0 r.1 in
    record { fits = p.0; same = q.0; boundary = r.0; a_string = t.0; twenty_each = eqb-true (length (bytes_of x)) n t.1 }

-- ---- the same files

pub same_count : (es : List V1Entry) (fs : List File) → same_files es fs ≡ true → length es ≡ length fs
unfolding same_files
same_count [] [] e = refl
same_count [] (f ∷ fs) e = absurd (false≢true e)
same_count (x ∷ es) [] e = absurd (false≢true e)
same_count (x ∷ es) (f ∷ fs) e =
    let p = (and-eq-true_iff (eqb x.size f.size) (same_path x.path f.path && same_files es fs)).0 e in
    let q = (and-eq-true_iff (same_path x.path f.path) (same_files es fs)).0 p.1 in
    ap suc (same_count es fs q.1)

-- file n has its length
pub same_size : (es : List V1Entry) (fs : List File) → same_files (files_among es) fs ≡ true → (n : ℕ) (f : File) → Nth fs n f → file_size es n ≡ f.size
unfolding same_files files_among file_size Nth
same_size [] [] e n f a = absurd a
same_size [] (g ∷ fs) e n f a = absurd (false≢true e)
same_size (x ∷ es) fs e zero f a = first x.padding fs e a (λ gs q b. same_size es gs q zero f b)
  where
    first : (t : Bool) (fs : List File) → same_files (cond t (files_among es) (x ∷ files_among es)) fs ≡ true → Nth fs zero f
        → ((gs : List File) → same_files (files_among es) gs ≡ true → Nth gs zero f → file_size es zero ≡ f.size) → cond t (file_size es zero) x.size ≡ f.size
    first true fs e a i = i fs e a
    first false [] e a i = absurd (false≢true e)
    first false (g ∷ fs) e a i =
        let p = (and-eq-true_iff (eqb x.size g.size) (same_path x.path g.path && same_files (files_among es) fs)).0 e in
        eqb-true x.size g.size p.0 ∙ ap (λ (z : File). z.size) (sym a)
same_size (x ∷ es) fs e (suc n) f a = later x.padding fs e a (λ gs m q b. same_size es gs q m f b)
  where
    later : (t : Bool) (fs : List File) → same_files (cond t (files_among es) (x ∷ files_among es)) fs ≡ true → Nth fs (suc n) f
        → ((gs : List File) (m : ℕ) → same_files (files_among es) gs ≡ true → Nth gs m f → file_size es m ≡ f.size) → file_size es (cond t (suc n) n) ≡ f.size
    later true fs e a i = i fs (suc n) e a
    later false [] e a i = absurd (false≢true e)
    later false (g ∷ fs) e a i =
        let p = (and-eq-true_iff (eqb x.size g.size) (same_path x.path g.path && same_files (files_among es) fs)).0 e in
        let q = (and-eq-true_iff (same_path x.path g.path) (same_files (files_among es) fs)).0 p.1 in
        i fs n q.1 a

-- a file lies within all entries
pub spot_within : (es : List V1Entry) (n : ℕ) → file_start es n + file_size es n ≤ total es
unfolding file_start file_size total
spot_within [] n = omega arith
spot_within (e ∷ es) zero = by e.padding (spot_within es zero)
  where
    by : (t : Bool) → file_start es zero + file_size es zero ≤ total es → cond t (e.size + file_start es zero) 0 + cond t (file_size es zero) e.size ≤ e.size + total es
    by true i = omega arith
    by false i = omega arith
spot_within (e ∷ es) (suc n) = by e.padding (spot_within es (suc n)) (spot_within es n)
  where
    by : (t : Bool) → file_start es (suc n) + file_size es (suc n) ≤ total es → file_start es n + file_size es n ≤ total es
        → e.size + file_start es (cond t (suc n) n) + file_size es (cond t (suc n) n) ≤ e.size + total es
    by true i j = omega arith
    by false i j = omega arith

-- ---- the entries by the keys

pub natural_some : (x : Lookup) → is_natural x ≡ true → natural_in x ≡ Some (number_of x)
natural_some absent e = absurd (false≢true e)
natural_some (present (integer true n)) e = absurd (false≢true e)
natural_some (present (integer false n)) e = refl
natural_some (present (string b)) e = absurd (false≢true e)
natural_some (present (list vs)) e = absurd (false≢true e)
natural_some (present (dictionary es)) e = absurd (false≢true e)

pub half_single : (info : Entries) → lookup key_files info ≡ absent → half_fits info ≡ true
    → (natural_in (lookup key_length info) ≡ Some (number_of (lookup key_length info))) × (v1_entries info ≡ one_file (number_of (lookup key_length info)) (bytes_of (lookup key_name info)) ∷ [])
unfolding half_fits v1_entries
half_single info q h =
    let p : is_natural (lookup key_length info) && has_string (lookup key_name info) ≡ true = rw q at h in
    (natural_some (lookup key_length info) ((and-eq-true_iff (is_natural (lookup key_length info)) (has_string (lookup key_name info))).0 p).0, rw q refl)

pub half_several : (info : Entries) (w : Value) → lookup key_files info ≡ present w → half_fits info ≡ true
    → (vs : Items) × (w ≡ list vs) × (items_fit vs ≡ true) × (v1_entries info ≡ entries_in vs)
unfolding half_fits v1_entries
half_several info w q h =
    let p : not (is_there (lookup key_length info)) && (list_fits (present w) && string_or_none (lookup key_name info)) ≡ true = rw q at h in
    let r = ((and-eq-true_iff (not (is_there (lookup key_length info))) (list_fits (present w) && string_or_none (lookup key_name info))).0 p).1 in
    by w ((and-eq-true_iff (list_fits (present w)) (string_or_none (lookup key_name info))).0 r).0 (rw q refl)
  where
    by : (w : Value) → list_fits (present w) ≡ true → v1_entries info ≡ list_entries (present w) → (vs : Items) × (w ≡ list vs) × (items_fit vs ≡ true) × (v1_entries info ≡ entries_in vs)
    by (list vs) f e = (vs, refl, f, e)
    by (integer minus n) f e = absurd (false≢true f)
    by (string b) f e = absurd (false≢true f)
    by (dictionary es) f e = absurd (false≢true f)
