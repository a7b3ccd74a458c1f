-- The v1 half from its keys, and with `pieces` whether the halves fit.
-- Assumes nothing.
use Rattle.std.specs.Prelude.{◌≡◌, Bool, true, false, not, ◌&&◌, ℕ, ◌-◌, ◌*◌, ◌^◌, ◌≤◌, ◌<◌, length, take, eqb, List, [], ◌∷◌, Option, Some, None}
use Rattle.bencode.specs.Scalar.{part}
use Rattle.std.proofs.Math.Path.{refl}
use Rattle.std.proofs.Common.{sym, ap, ◌∙◌, ne_eqb, arith}
use Rattle.std.proofs.lemmas.Bool.{false≢true}
use Rattle.std.proofs.Math.Decide.{dec_lt}
use Rattle.std.proofs.Math.ListN.{drop}
use Rattle.limits.specs.Limits.{largest_torrent, max_levels}
use Rattle.octets.specs.Octets.{cut}
use Rattle.octets.specs.OctetsLaws.{cut_length, cut_size}
use Rattle.tree.specs.Geometry.{is_piece_length, piece_count}
use Rattle.tree.proofs.GeometryLaws.{piece_some, piece_length_large}
use Rattle.bencode.specs.Grammar.{Value, integer, string, list, dictionary, Items, Entries, encode, Valid, none}
use Rattle.bencode.specs.DepthLaws.{more_levels}
use Rattle.bencode.specs.Parts.{Lookup, absent, present, lookup, find_key, FoundIs}
use Rattle.bencode.specs.PartsLaws.{find_is, find_ends, part_front, lookup_valid}
use Rattle.bencode.specs.declared.part.Part.{Part}
use Rattle.filetree.specs.Tree.{Listed, Files, wrong, files, right, listed, files_in}
use Rattle.filetree.specs.Reading.{read_files}
use Rattle.meaning.specs.Keys.{key_length}
use Rattle.meaning.specs.Torrent.{File, is_natural, number_of}
use Rattle.halves.specs.V1Keys.{key_pieces, key_files, key_name}
use Rattle.halves.specs.V1Half.{V1Entry, is_there, has_string, bytes_of, string_or_none, items_fit, entries_in, list_fits, list_entries, one_file, half_fits, v1_entries, total, files_among, same_files, on_boundary, pieces_fit}
use Rattle.hybrid.specs.Entry.{StandsAt, natural_in, is_list}
use Rattle.hybrid.specs.EntryLaws.{is_list_value, list_is, natural_is, natural_not}
use Rattle.hybrid.specs.Tally.{Encodes}
use Rattle.hybrid.specs.Half.{half_of, several_of, fits_with}
use Rattle.hybrid.specs.HalfLaws.{half_decides}
use Rattle.torrent.specs.HalvesFit.{StringRead, fit_beside}
use Rattle.torrent.specs.KeyStringLaws.{string_there}
use Rattle.torrent.specs.OneFileLaws.{count_other, half_other, half_bad}
use Rattle.torrent.specs.declared.both.KeyString.TheVariants.{NoKey, Text, OtherType}

-- ---- without `files`

module _ (info : Entries) (gs : List File) where
  module _ (no_files : is_there (lookup key_files info) ≡ false) where
    fits_single : half_fits info ≡ is_natural (lookup key_length info) && has_string (lookup key_name info)
    unfolding half_fits
    fits_single = rw no_files refl

    entries_single : v1_entries info ≡ one_file (number_of (lookup key_length info)) (bytes_of (lookup key_name info)) ∷ []
    unfolding v1_entries
    entries_single = rw no_files refl

    pub single_no_length : None ≡ natural_in (lookup key_length info) → (plen : ℕ) → None ≡ half_of plen (half_fits info) (v1_entries info) gs
    single_no_length e plen = half_bad plen (half_fits info) (v1_entries info) gs (fits_single ∙ ap (λ (b : Bool). b && has_string (lookup key_name info)) (natural_not (lookup key_length info) e))

    pub single_no_name : (n : ℕ) → Some n ≡ natural_in (lookup key_length info) → has_string (lookup key_name info) ≡ false → (plen : ℕ) → None ≡ half_of plen (half_fits info) (v1_entries info) gs
    single_no_name n e h plen = half_bad plen (half_fits info) (v1_entries info) gs (fits_single ∙ rw ((natural_is (lookup key_length info) n e).0, h) refl)

    pub single_count : (length gs ≡ 1 → ⊥) → (plen : ℕ) → None ≡ half_of plen (half_fits info) (v1_entries info) gs
    unfolding files_among
    single_count h plen = half_other plen (half_fits info) (v1_entries info) gs (ap (λ (es : List V1Entry). same_files (files_among es) gs) entries_single ∙ count_other _ gs h)

    -- what is said of the file with that length and name
    pub single_is : (n : ℕ) (name : List ℕ) (plen : ℕ) (r : Option ℕ) → Some n ≡ natural_in (lookup key_length info) → has_string (lookup key_name info) ≡ true → name ≡ bytes_of (lookup key_name info)
        → r ≡ half_of plen true (one_file n name ∷ []) gs → r ≡ half_of plen (half_fits info) (v1_entries info) gs
    single_is n name plen r e h q z =
        let m = natural_is (lookup key_length info) n e in
        z ∙ rw (fits_single, entries_single, m.0, m.1, h, q) refl

  -- ---- with `files`

  module _ (w : Value) (there : lookup key_files info ≡ present w) where
    fits_several : half_fits info ≡ not (is_there (lookup key_length info)) && (list_fits (present w) && string_or_none (lookup key_name info))
    unfolding half_fits
    fits_several = rw there refl

    entries_several : v1_entries info ≡ list_entries (present w)
    unfolding v1_entries
    entries_several = rw there refl

    pub several_length : (t : Bool) → t ≡ is_there (lookup key_length info) → t ≡ true → (plen : ℕ) → None ≡ half_of plen (half_fits info) (v1_entries info) gs
    several_length t e q plen =
        half_bad plen (half_fits info) (v1_entries info) gs (fits_several ∙ ap (λ (b : Bool). not b && (list_fits (present w) && string_or_none (lookup key_name info))) (sym e ∙ q))

    pub several_name : (t : Bool) → t ≡ string_or_none (lookup key_name info) → t ≡ false → (plen : ℕ) → None ≡ half_of plen (half_fits info) (v1_entries info) gs
    several_name t e q plen =
        half_bad plen (half_fits info) (v1_entries info) gs
        (fits_several ∙ ap (λ (b : Bool). not (is_there (lookup key_length info)) && (list_fits (present w) && b)) (sym e ∙ q) ∙ last (not (is_there (lookup key_length info))) (list_fits (present w)))
      where
        last : (a b : Bool) → a && (b && false) ≡ false
        last true true = refl
        last true false = refl
        last false b = refl

    pub several_no_list : is_list_value w ≡ false → (plen : ℕ) → None ≡ half_of plen (half_fits info) (v1_entries info) gs
    several_no_list e plen =
        half_bad plen (half_fits info) (v1_entries info) gs
        (fits_several ∙ ap (λ (b : Bool). not (is_there (lookup key_length info)) && (b && string_or_none (lookup key_name info))) (no_list w e) ∙ none (not (is_there (lookup key_length info))))
      where
        none : (a : Bool) → a && false ≡ false
        none true = refl
        none false = refl

        no_list : (w : Value) → is_list_value w ≡ false → list_fits (present w) ≡ false
        no_list (list vs) e = absurd (false≢true (sym e))
        no_list (integer minus n) e = refl
        no_list (string b) e = refl
        no_list (dictionary es) e = refl

  pub several_is : (vs : Items) → lookup key_files info ≡ present (list vs) → (t u : Bool) → t ≡ is_there (lookup key_length info) → t ≡ false → u ≡ string_or_none (lookup key_name info) → u ≡ true
      → (plen : ℕ) (r : Option ℕ) → r ≡ half_of plen (items_fit vs) (entries_in vs) gs → r ≡ half_of plen (half_fits info) (v1_entries info) gs
  several_is vs there t u et qt eu qu plen r z =
      z ∙ rw (fits_several (list vs) there, entries_several (list vs) there, sym et ∙ qt, sym eu ∙ qu) (ap (λ (b : Bool). half_of plen b (entries_in vs) gs) (all (items_fit vs)))
    where
      all : (b : Bool) → b ≡ b && true
      all true = refl
      all false = refl

-- ---- the value of `files` as a part of `info`

part_value : (i key : List ℕ) (f : Option Part) → f ≡ find_key key 0 (drop 0 i) → (a b : ℕ) → f ≡ part a b → (info : Entries) → StandsAt i 0 (dictionary info)
    → (w : Value) × (lookup key info ≡ present w) × (take (b - a) (drop a i) ≡ encode w) × Valid w max_levels
unfolding cut
part_value i key f e a b q info s =
    by (lookup key info) refl (rw (sym e ∙ q) at (find_is key i 0 info s.behind s.bytes s.valid))
  where
    by : (x : Lookup) → lookup key info ≡ x → FoundIs i (part a b) x → (w : Value) × (lookup key info ≡ present w) × (take (b - a) (drop a i) ≡ encode w) × Valid w max_levels
    by absent g k = absurd k
    by (present w) g k =
        let v : Valid w (max_levels - 1) = unfold Valid in lookup_valid key info none (max_levels - 1) w s.valid g in
        (w, g, k, more_levels w (max_levels - 1) max_levels (omega arith) v)

-- a list that begins there
part_list : (i : List ℕ) (a b : ℕ) (w : Value) → take (b - a) (drop a i) ≡ encode w → Valid w max_levels → is_list_value w ≡ true → (vs : Items) × (w ≡ list vs) × Encodes (take (b - a) (drop a i)) vs
part_list i a b (list vs) e v q = (vs, refl, record { bytes = e; valid = v })
part_list i a b (integer minus n) e v q = absurd (false≢true q)
part_list i a b (string c) e v q = absurd (false≢true q)
part_list i a b (dictionary es) e v q = absurd (false≢true q)

-- whether it does is what the value is
list_so : (i : List ℕ) (a : ℕ) (w : Value) (s : StandsAt i a w) (t : Bool) → t ≡ is_list (drop a i) → is_list_value w ≡ t
list_so i a w s t e = sym (list_is w s.behind) ∙ ap is_list (sym s.bytes) ∙ sym e

-- a right tree has its files
right_files : (x : Files) → right x ≡ true → (k : ℕ) × (x ≡ files (listed x) k)
unfolding right listed
right_files wrong e = absurd (false≢true e)
right_files (files fs k) e = (k, refl)

-- ---- the half, as the code comes to it

module _ (i : List ℕ) (f : Option Part) (ef : f ≡ find_key key_files 0 (drop 0 i)) (a b : ℕ) (q : f ≡ part a b) where
  pub files_inside : (a ≤ b) × (b ≤ length i)
  files_inside = let p = find_ends key_files 0 i a b (sym ef ∙ q) in let x = p.1 in let y = p.2 in (omega arith, y)

  pub files_small : length i ≤ largest_torrent → length (take (b - a) (drop a i)) ≤ largest_torrent
  unfolding cut
  files_small h = let x = cut_size i a (b - a) in omega arith

  value_at : (w : Value) → take (b - a) (drop a i) ≡ encode w → Valid w max_levels → StandsAt i a w
  unfolding cut
  value_at w e v = record { behind = drop (b - a) (drop a i); bytes = part_front i a b w e; valid = v }

  module _ (plen : ℕ) (gs : List File) where
    pub half_both : (x : Bool) → ((info : Entries) → StandsAt i 0 (dictionary info) → x ≡ is_there (lookup key_length info)) → x ≡ true
        → (info : Entries) → StandsAt i 0 (dictionary info) → None ≡ half_of plen (half_fits info) (v1_entries info) gs
    half_both x ex e info s = let w = part_value i key_files f ef a b q info s in several_length info gs w.0 w.1 x (ex info s) e plen

    pub half_name : (x : Bool) → ((info : Entries) → StandsAt i 0 (dictionary info) → x ≡ string_or_none (lookup key_name info)) → x ≡ false
        → (info : Entries) → StandsAt i 0 (dictionary info) → None ≡ half_of plen (half_fits info) (v1_entries info) gs
    half_name x ex e info s = let w = part_value i key_files f ef a b q info s in several_name info gs w.0 w.1 x (ex info s) e plen

    pub half_no_list : (x : Bool) → x ≡ is_list (drop a i) → x ≡ false
        → (info : Entries) → StandsAt i 0 (dictionary info) → None ≡ half_of plen (half_fits info) (v1_entries info) gs
    half_no_list x ex e info s =
        let w = part_value i key_files f ef a b q info s in
        several_no_list info gs w.0 w.1 (list_so i a w.0 (value_at w.0 w.2 w.3) x ex ∙ e) plen

  -- what is said of the list
  pub half_several : (t : List ℕ) → right (files_in t) ≡ true → (n : ℕ) → n ≡ length (listed (files_in t)) → (plen : ℕ) (r : Option ℕ)
      → ((vs : Items) → Encodes (take (b - a) (drop a i)) vs → (fs : List Listed) (k : ℕ) → files_in t ≡ files fs k → n ≡ length fs → r ≡ several_of plen vs (read_files t fs))
      → (x y z : Bool) → ((info : Entries) → StandsAt i 0 (dictionary info) → x ≡ is_there (lookup key_length info)) → x ≡ false
      → ((info : Entries) → StandsAt i 0 (dictionary info) → y ≡ string_or_none (lookup key_name info)) → y ≡ true
      → z ≡ is_list (drop a i) → z ≡ true
      → (info : Entries) → StandsAt i 0 (dictionary info) → r ≡ half_of plen (half_fits info) (v1_entries info) (read_files t (listed (files_in t)))
  half_several t h n en plen r er x y z ex qx ey qy ez qz info s =
      let w = part_value i key_files f ef a b q info s in
      let l = part_list i a b w.0 w.2 w.3 (list_so i a w.0 (value_at w.0 w.2 w.3) z ez ∙ qz) in
      let k = right_files (files_in t) h in
      several_is info (read_files t (listed (files_in t))) l.0 (w.1 ∙ ap present l.1) x y (ex info s) qx (ey info s) qy plen r (er l.0 l.2 (listed (files_in t)) k.0 k.1 en)

-- ---- with `pieces`

pub plen_range : (plen : ℕ) → is_piece_length plen ≡ true → (0 < plen) × (plen ≤ 2 ^ 24)
plen_range plen e = (piece_some plen e, by (dec_lt 16777216 plen))
  where
    by : Dec (16777216 < plen) → plen ≤ 2 ^ 24
    by (yes h) = absurd (false≢true (sym (piece_length_large plen h) ∙ e))
    by (no h) = omega arith

module _ (plen : ℕ) (info : Entries) (gs : List File) (l : 0 < plen) (h : plen ≤ 2 ^ 24) where
  abbrev x : Lookup
  x = lookup key_pieces info

  abbrev Fits : Bool
  Fits = fit_beside plen gs info

  pub fits_pure : x ≡ absent → true ≡ Fits
  fits_pure e = rw e refl

  module _ (e : is_there x ≡ true) where
    fits_hybrid : Fits ≡ half_fits info && (same_files (files_among (v1_entries info)) gs && (on_boundary plen 0 (v1_entries info) && pieces_fit plen (total (v1_entries info)) x))
    fits_hybrid = rw e refl

    pub fits_no_string : has_string x ≡ false → false ≡ Fits
    fits_no_string g = sym (fits_hybrid ∙ rw g (no_three (half_fits info) (same_files (files_among (v1_entries info)) gs) (on_boundary plen 0 (v1_entries info))))
      where
        no_three : (a b c : Bool) → a && (b && (c && false)) ≡ false
        no_three true true true = refl
        no_three true true false = refl
        no_three true false c = refl
        no_three false b c = refl

    module _ (few : length (bytes_of x) ≤ largest_torrent) (r : Option ℕ) (er : r ≡ half_of plen (half_fits info) (v1_entries info) gs) where
      by_half : Fits ≡ fits_with plen x r
      by_half = fits_hybrid ∙ sym (half_decides plen (half_fits info) (v1_entries info) gs x l h few) ∙ ap (fits_with plen x) (sym er)

      pub fits_misfit : r ≡ None → false ≡ Fits
      fits_misfit g = sym (by_half ∙ ap (fits_with plen x) g)

      module _ (n : ℕ) (g : r ≡ Some n) (s : has_string x ≡ true) where
        by_pieces : Fits ≡ eqb (length (bytes_of x)) (20 * piece_count n plen)
        by_pieces = by_half ∙ ap (fits_with plen x) g ∙ rw s refl

        pub fits_many : largest_torrent < piece_count n plen → false ≡ Fits
        fits_many m = sym (by_pieces ∙ ne_eqb (length (bytes_of x)) (20 * piece_count n plen) (λ z. omega (arith, few, z)))

        pub fits_pieces : (k : ℕ) → k ≡ length (bytes_of x) → eqb k (20 * piece_count n plen) ≡ Fits
        fits_pieces k z = rw z (sym by_pieces)

-- ---- as the code comes to it

module _ (i : List ℕ) (plen : ℕ) (ep : is_piece_length plen ≡ true) (gs : List File) where
  pub no_pieces : StringRead i key_pieces NoKey → (info : Entries) → StandsAt i 0 (dictionary info) → true ≡ fit_beside plen gs info
  no_pieces w info s = let p = plen_range plen ep in fits_pure plen info gs p.0 p.1 (w.string info s)

  pub other_pieces : StringRead i key_pieces OtherType → (info : Entries) → StandsAt i 0 (dictionary info) → false ≡ fit_beside plen gs info
  other_pieces w info s = let p = plen_range plen ep in fits_no_string plen info gs p.0 p.1 (w.string info s).0 (w.string info s).1

  module _ (small : length i ≤ largest_torrent) (a b : ℕ) (w : StringRead i key_pieces (Text a b)) (r : Option ℕ) (er : (info : Entries) → StandsAt i 0 (dictionary info) → r ≡ half_of plen (half_fits info) (v1_entries info) gs) where
    module _ (info : Entries) (s : StandsAt i 0 (dictionary info)) where
      size_is : b - a ≡ length (bytes_of (lookup key_pieces info))
      size_is = let x = w.ends.0 in let y = w.ends.1 in sym (cut_length i a (b - a) (omega arith)) ∙ ap length (w.string info s).1

      few : length (bytes_of (lookup key_pieces info)) ≤ largest_torrent
      few = let x = w.ends.0 in let y = w.ends.1 in omega (arith, size_is)

      there : is_there (lookup key_pieces info) ≡ true
      there = string_there (lookup key_pieces info) (w.string info s).0

    pub pieces_misfit : r ≡ None → (info : Entries) → StandsAt i 0 (dictionary info) → false ≡ fit_beside plen gs info
    pieces_misfit g info s = let p = plen_range plen ep in fits_misfit plen info gs p.0 p.1 (there info s) (few info s) r (er info s) g

    module _ (n : ℕ) (g : r ≡ Some n) (k : ℕ) (ek : k ≡ piece_count n plen) where
      pub pieces_many : largest_torrent < k → (info : Entries) → StandsAt i 0 (dictionary info) → false ≡ fit_beside plen gs info
      pieces_many m info s =
          let p = plen_range plen ep in
          fits_many plen info gs p.0 p.1 (there info s) (few info s) r (er info s) n g (w.string info s).0 (rw ek at m)

      pub pieces_counted : (info : Entries) → StandsAt i 0 (dictionary info) → eqb (b - a) (20 * k) ≡ fit_beside plen gs info
      pieces_counted info s =
          let p = plen_range plen ep in
          rw ek (fits_pieces plen info gs p.0 p.1 (there info s) (few info s) r (er info s) n g (w.string info s).0 (b - a) (size_is info s))
