-- What is answered, from what was checked and found.
-- Assumes nothing.
use Rattle.hybrid.specs.Tally.{sums}
use Rattle.std.specs.Prelude.{◌≡◌, true, length, drop, List, [], ◌∷◌, ℕ, zero, suc, ◌+◌, ◌-◌, ◌*◌, ◌/◌, ◌≤◌, ◌<◌, None, Option, Some, Result, Err}
use Rattle.bencode.specs.Scalar.{part}
use Rattle.std.proofs.Math.Path.{refl, sym, ap}
use Rattle.std.proofs.Common.{◌∙◌, length-take, length-drop, arith, eq-eqb, ne_eqb, lt-ltb, le-ltb}
use Rattle.std.proofs.Math.Nat.{div-add-mod', add-mul}
use Rattle.std.proofs.Math.ListN.{take}
use Rattle.limits.specs.Limits.{max_levels}
use Rattle.numbers.specs.Refusals.{number_of as refusal_number, refused_is_some}
use Rattle.numbers.specs.declared.Refused.{Refused}
use Rattle.numbers.specs.Numbers.{rule_broken, no_such_part}
use Rattle.octets.specs.Octets.{cut}
use Rattle.octets.specs.OctetsLaws.{cut_cut}
use Rattle.sha_1.specs.Sha1.{sha1}
use Rattle.tree.specs.Geometry.{piece_count}
use Rattle.tree.proofs.GeometryLaws.{ceil_below, below_ceil}
use Rattle.bencode.specs.Grammar.{list, dictionary, Items, Entries, none, encode, Valid}
use Rattle.bencode.specs.DepthLaws.{more_levels}
use Rattle.bencode.specs.Parts.{lookup, find_key, FoundIs, Lookup, absent, present}
use Rattle.bencode.specs.PartsLaws.{find_is, find_ends, lookup_valid}
use Rattle.bencode.specs.declared.part.Part.{Part}
use Rattle.meaning.specs.Keys.{key_length}
use Rattle.meaning.specs.Torrent.{info_of, number_of}
use Rattle.halves.specs.V1Keys.{key_files, key_name}
use Rattle.halves.specs.V1Half.{entries_in, bytes_of, one_file, v1_entries, total, files_among, on_boundary}
use Rattle.halves.specs.Stream.{file_start, zeros_behind, v1_hash_at}
use Rattle.halves.specs.Decoded.{torrent_in}
use Rattle.hybrid.specs.Entry.{StandsAt, natural_in}
use Rattle.hybrid.specs.EntryLaws.{found_here, found_missing}
use Rattle.hybrid.specs.Tally.{tallied_of}
use Rattle.hybrid.specs.TallyLaws.{tally_sums, tally_amiss}
use Rattle.metainfo.specs.Metainfo.{bytes_in}
use Rattle.torrent.specs.Torrent.{Checked, unread, checked_of}
use Rattle.v1.specs.Place.{file_size, spot_of, Fitting}
use Rattle.v1.specs.V1.{HybridRead, V1Piece, V1Part, no_hybrid, hybrid_of, file_of, pieces_in, no_piece, piece_of, v1_piece_of, pieces_from, no_part, part_of, v1_pieces_of}
use Rattle.v1.specs.Asked.{Fits, Stands, Answers}
use Rattle.v1.specs.declared.read.Sought.{Sought}
use Rattle.v1.specs.HalfLaws.{half_single, half_several}
use Rattle.v1.specs.KnownLaws.{Known, known_so, no_pieces, some_pieces, pieces_stand}
use Rattle.v1.specs.declared.place.Spot.{Spot}
use Rattle.v1.specs.declared.read.V1File.{V1File}

-- ---- file n of the list that v is

abbrev pub among_of : Items → ℕ → V1File
among_of vs n = record { start = file_start (entries_in vs) n; length = file_size (entries_in vs) n; total = total (entries_in vs) }

module _ (v : List ℕ) (plen n : ℕ) (vs : Items) (f : Fitting v vs) (b : on_boundary plen 0 (entries_in vs) ≡ true) where
  pub among_never : None ≡ tallied_of plen vs → ⊥
  among_never e = let x = tally_amiss plen 0 0 vs (omega arith) (sym e) f.fit b in let y = f.few in omega arith

  pub among_is : (g t : ℕ) → sums g t ≡ tallied_of plen vs → (p : Spot) → p ≡ spot_of (entries_in vs) n → ◌≡◌ {A = V1File} (record { start = p.start; length = p.length; total = t }) (among_of vs n)
  among_is g t e p ep =
      let m : t ≡ total (entries_in vs) = omega (arith, (tally_sums plen 0 0 vs g t (omega arith) (sym e)).bytes) in
      rw (ep, m) refl

-- ---- file n of a v1 half

module _ (s : List ℕ) (at : ℕ) (w : Option Part) (ew : w ≡ find_key key_files at (drop at s)) (plen n : ℕ) (info : Entries) (st : StandsAt s at (dictionary info)) (f : Fits plen info n) where
  module _ (q : w ≡ None) (x : Option ℕ) (ex : x ≡ natural_in (lookup key_length info)) where
    single : (natural_in (lookup key_length info) ≡ Some (number_of (lookup key_length info))) × (v1_entries info ≡ one_file (number_of (lookup key_length info)) (bytes_of (lookup key_name info)) ∷ [])
    single = half_single info (found_missing s _ _ (found_here s key_files at info st) (sym ew ∙ q)) f.fits

    pub single_never : x ≡ None → ⊥
    single_never r = let p = single.0 in let z : ◌≡◌ {A = ℕ} 0 1 = cc in omega arith

    pub single_is : (m : ℕ) → x ≡ Some m → ◌≡◌ {A = V1File} (record { start = 0; length = m; total = m }) (file_of info n)
    single_is m r =
        let p = single.0 in
        let e : number_of (lookup key_length info) ≡ m = cc in
        rw (single.1, e) (by n (rw single.1 at f.there))
      where
        by : (n : ℕ) → n < length (files_among (one_file (number_of (lookup key_length info)) (bytes_of (lookup key_name info)) ∷ []))
            → ◌≡◌ {A = V1File} (record { start = 0; length = m; total = m }) (record { start = file_start (one_file m (bytes_of (lookup key_name info)) ∷ []) n; length = file_size (one_file m (bytes_of (lookup key_name info)) ∷ []) n; total = total (one_file m (bytes_of (lookup key_name info)) ∷ []) })
        by zero h = unfold file_start file_size total in (let z : m + 0 ≡ m = omega arith in rw z refl)
        by (suc n) h = let l : suc n < 1 = unfold files_among in h in absurd (omega arith)

  module _ (a b : ℕ) (q : w ≡ part a b) where
    -- the value of `files`
    listed : (vs : Items) × (lookup key_files info ≡ present (list vs)) × Fitting (take (b - a) (drop a s)) vs × (v1_entries info ≡ entries_in vs)
    listed = by (lookup key_files info) refl (rw (sym ew ∙ q) at (find_is key_files s at info st.behind st.bytes st.valid))
      where
        by : (x : Lookup) → lookup key_files info ≡ x → FoundIs s (part a b) x → (vs : Items) × (lookup key_files info ≡ present (list vs)) × Fitting (take (b - a) (drop a s)) vs × (v1_entries info ≡ entries_in vs)
        by absent e i = absurd i
        by (present v) e i =
            let deep : Valid v (max_levels - 1) = unfold Valid in lookup_valid key_files info none (max_levels - 1) v st.valid e in
            let p = half_several info v e f.fits in
            let bytes : take (b - a) (drop a s) ≡ encode (list p.0) = unfold cut in (i ∙ ap encode p.1) in
            let valid : Valid (list p.0) max_levels = rw p.1 at (more_levels v (max_levels - 1) max_levels (omega arith) deep) in
            (p.0, e ∙ ap present p.1, record { encoded = record { bytes = bytes; valid = valid }; fit = p.2; few = rw p.3 at f.few }, p.3)

    pub several_is : (r : V1File) → ((vs : Items) → Fitting (take (b - a) (drop a s)) vs → on_boundary plen 0 (entries_in vs) ≡ true → r ≡ among_of vs n) → r ≡ file_of info n
    several_is r g = g listed.0 listed.2 (rw (sym listed.3) f.boundary) ∙ rw listed.3 refl

pub files_part : (s : List ℕ) (at : ℕ) (w : Option Part) → w ≡ find_key key_files at (drop at s) → (a b : ℕ) → w ≡ part a b → (a ≤ b) × (b ≤ length s)
files_part s at w e a b q = let p = find_ends key_files at s a b (sym e ∙ q) in let x = p.1 in (omega arith, p.2)

-- it is no longer than the torrent
pub part_small : (s : List ℕ) (a b n : ℕ) → length s ≤ n → length (take (b - a) (drop a s)) ≤ n
part_small s a b n h = let p = length-take (b - a) (drop a s) in let q = length-drop a s in omega arith

-- ---- one piece

module _ (size base plen start len all : ℕ) (t : Stands size base plen start len all) (i : ℕ) (h : i < piece_count len plen) where
  pub piece_own : i * plen < len
  unfolding piece_count
  piece_own = ceil_below len plen i t.some h

  -- the piece among those of all entries
  pub piece_among : start / plen + i < piece_count all plen
  unfolding piece_count
  piece_among = below_ceil all plen (start / plen + i) t.some (omega (arith, add-mul (start / plen) i plen, div-add-mod' start plen, piece_own, t.within))

pub piece_none : (plen start len all i n : ℕ) → n ≡ piece_count len plen → n ≤ i → (pieces : List ℕ) → no_piece rule_broken ≡ piece_of pieces plen (record { start = start; length = len; total = all }) i
piece_none plen start len all i n e h pieces = rw (le-ltb i (piece_count len plen) (omega arith)) refl

module _ (s : List ℕ) (base plen start len all : ℕ) (t : Stands (length s) base plen start len all) (i : ℕ) where
  pub piece_done : (n : ℕ) → n ≡ piece_count len plen → i < n → (pieces : List ℕ) → cut s base (length pieces) ≡ pieces → 20 * piece_count all plen ≤ length pieces
      → (hash : List ℕ) → hash ≡ cut s (base + 20 * (start / plen + i)) 20 → (zeros : ℕ) → zeros ≡ zeros_behind plen all (start + i * plen) (len - i * plen)
      → ◌≡◌ {A = V1Piece} (record { number = 0; hash = hash; zeros = zeros }) (piece_of pieces plen (record { start = start; length = len; total = all }) i)
  unfolding v1_hash_at
  piece_done n e l pieces c m hash eh _ ez =
      let h : i < piece_count len plen = omega arith in
      let g : hash ≡ cut pieces (20 * (start / plen + i)) 20 =
      eh ∙ sym (cut_cut s base (length pieces) (20 * (start / plen + i)) 20 (omega (arith, piece_among (length s) base plen start len all t i h))) ∙ ap (λ (p : List ℕ). cut p (20 * (start / plen + i)) 20) c in
      rw (lt-ltb i (piece_count len plen) h, g, ez) refl

-- ---- all pieces of a file

module _ (size base plen start len all : ℕ) (t : Stands size base plen start len all) where
  pub part_empty : len ≡ 0 → no_part 0 ≡ part_of base plen (record { start = start; length = len; total = all })
  part_empty e = rw (eq-eqb len 0 e) refl

  module _ (ne : len ≡ 0 → ⊥) where
    -- it has a piece
    pub part_some : 0 < piece_count len plen
    unfolding piece_count
    part_some = below_ceil len plen 0 t.some (omega arith)

    pub part_last : (n : ℕ) → n ≡ piece_count len plen → n - 1 < piece_count len plen
    part_last n e = omega (arith, part_some)

    pub part_done : (n : ℕ) → n ≡ piece_count len plen → (zeros : ℕ) → zeros ≡ zeros_behind plen all (start + (n - 1) * plen) (len - (n - 1) * plen)
        → ◌≡◌ {A = V1Part} (record { number = 0; start = base + 20 * (start / plen); size = 20 * n; zeros = zeros }) (part_of base plen (record { start = start; length = len; total = all }))
    part_done n e _ ez = rw (ne_eqb len 0 ne, ez, e) refl

-- ---- the calls

module _ (s : List ℕ) (c : Checked) (e : c ≡ checked_of s) where
  pub hybrid_refused : (c.keys.number ≡ 0 → ⊥) → no_hybrid c.keys.number ≡ hybrid_of s
  unfolding hybrid_of
  hybrid_refused h = rw (sym e) (simp (ne_eqb c.keys.number 0 h))

  pub piece_refused : (n i : ℕ) → (c.keys.number ≡ 0 → ⊥) → no_piece c.keys.number ≡ v1_piece_of s n i
  unfolding v1_piece_of
  piece_refused n i h = rw (sym e) (simp (ne_eqb c.keys.number 0 h))

  pub part_refused : (n : ℕ) → (c.keys.number ≡ 0 → ⊥) → no_part c.keys.number ≡ v1_pieces_of s n
  unfolding v1_pieces_of
  part_refused n h = rw (sym e) (simp (ne_eqb c.keys.number 0 h))

  module _ (z : c.keys.number ≡ 0) where
    abbrev k : Known s c
    k = known_so s c e z

    pub piece_no_file : (n i : ℕ) → c.files ≤ n → no_piece no_such_part ≡ v1_piece_of s n i
    unfolding v1_piece_of
    piece_no_file n i h = rw (sym e) (simp (eq-eqb c.keys.number 0 z, le-ltb n c.files h))

    pub part_no_file : (n : ℕ) → c.files ≤ n → no_part no_such_part ≡ v1_pieces_of s n
    unfolding v1_pieces_of
    part_no_file n h = rw (sym e) (simp (eq-eqb c.keys.number 0 z, le-ltb n c.files h))

    module _ (w : Option Part) (ew : w ≡ pieces_from s c.keys.info.start) where
      module _ (q : w ≡ None) where
        pub hybrid_not : no_hybrid 0 ≡ hybrid_of s
        unfolding hybrid_of
        hybrid_not = rw (sym e) (rw (eq-eqb c.keys.number 0 z, no_pieces s c k w ew q) refl)

        pub piece_no_hybrid : (n i : ℕ) → n < c.files → no_piece rule_broken ≡ v1_piece_of s n i
        unfolding v1_piece_of
        piece_no_hybrid n i h = rw (sym e) (rw (eq-eqb c.keys.number 0 z, lt-ltb n c.files h, no_pieces s c k w ew q) refl)

        pub part_no_hybrid : (n : ℕ) → n < c.files → no_part rule_broken ≡ v1_pieces_of s n
        unfolding v1_pieces_of
        part_no_hybrid n h = rw (sym e) (rw (eq-eqb c.keys.number 0 z, lt-ltb n c.files h, no_pieces s c k w ew q) refl)

      module _ (a b : ℕ) (q : w ≡ part a b) where
        pub hybrid_is : (h : List ℕ) → h ≡ sha1 (bytes_in s c.keys.info) → ◌≡◌ {A = HybridRead} (record { number = 0; hybrid = 1; hash = h }) (hybrid_of s)
        unfolding hybrid_of
        hybrid_is h eh = rw (sym e) (rw (eq-eqb c.keys.number 0 z, some_pieces s c k w a b ew q, eh) refl)

        -- what is answered of the file
        pub piece_is : (n i : ℕ) → n < c.files → (f : V1File) → f ≡ file_of (info_of (torrent_in s)) n → (r : V1Piece)
            → ((pieces : List ℕ) → cut s a (length pieces) ≡ pieces → 20 * piece_count f.total c.keys.plen ≤ length pieces → r ≡ piece_of pieces c.keys.plen f i) → r ≡ v1_piece_of s n i
        piece_is n i h f ef r g =
            g (pieces_in (torrent_in s)) (pieces_stand s c k w a b ew q) (rw (ef, k.plen_is) (omega (arith, (k.halves (some_pieces s c k w a b ew q)).twenty_each)))
            ∙ answered
          where
            answered : piece_of (pieces_in (torrent_in s)) c.keys.plen f i ≡ v1_piece_of s n i
            answered = unfold v1_piece_of in rw (sym e) (rw (eq-eqb c.keys.number 0 z, lt-ltb n c.files h, some_pieces s c k w a b ew q, ef, k.plen_is) refl)

        pub part_is : (n : ℕ) → n < c.files → (f : V1File) → f ≡ file_of (info_of (torrent_in s)) n → (r : V1Part) → r ≡ part_of a c.keys.plen f → r ≡ v1_pieces_of s n
        part_is n h f ef r g = g ∙ answered
          where
            answered : part_of a c.keys.plen f ≡ v1_pieces_of s n
            answered = unfold v1_pieces_of in rw (sym e) (rw (eq-eqb c.keys.number 0 z, lt-ltb n c.files h, some_pieces s c k w a b ew q, ef, k.plen_is, sym ew ∙ q) refl)

-- a torrent that is refused has no file
pub seek_refused : (s : List ℕ) (n : ℕ) (why y : Refused) (r : Result Sought Refused) → r ≡ Err y → y ≡ why → unread (refusal_number why) ≡ checked_of s → Answers s n r
seek_refused s n why y r er ey e = rw (er, ey) (λ i. piece_refused s (unread (refusal_number why)) e n i (refused_is_some why), part_refused s (unread (refusal_number why)) e n (refused_is_some why))
