-- 31 is given exactly if none of 22 to 28 is amiss, the torrent is hybrid and its halves don't agree; and a torrent without `pieces` gets the
-- number that it got before.
-- Assumes nothing.
use Rattle.std.specs.Prelude.{◌≡◌, ◌⊎◌, ◌↔◌, Bool, true, false, cond, not, ◌&&◌, ◌||◌, List, [], ◌∷◌, ℕ, zero, suc, ◌+◌, ◌*◌, ◌%◌, ◌≤◌, ◌<◌, length, eqb}
use Rattle.std.proofs.Math.Path.{refl}
use Rattle.std.proofs.Common.{sym, ap, ◌∙◌, inl, inr, arith, add_assoc, eqb-true, eq-eqb, ne_eqb}
use Rattle.std.proofs.lemmas.Bool.{false≢true, eqb-false, not-true}
use Rattle.std.proofs.Math.Bool.{and-eq-true_iff}
use Rattle.std.proofs.Math.Nat.{zero-add}
use Rattle.octets.specs.Octets.{same}
use Rattle.octets.specs.OctetsLaws.{same_true, same_eq}
use Rattle.numbers.specs.Numbers.{layer_differs, halves_differ}
use Rattle.tree.specs.Geometry.{piece_count}
use Rattle.bencode.specs.Grammar.{Value, integer, string, list, dictionary, Items, no_items, item, Entries}
use Rattle.bencode.specs.Parts.{Lookup, absent, present, lookup}
use Rattle.meaning.specs.Keys.{key_length}
use Rattle.halves.specs.V1Keys.{key_pieces, key_files, key_name, key_path, key_attr}
use Rattle.meaning.specs.Counting.{Member}
use Rattle.meaning.specs.Nth.{Nth}
use Rattle.meaning.specs.Torrent.{is_natural, number_of, info_of, plen_of, without, File, files_of, value_number}
use Rattle.meaning.specs.Amiss.{NoneAmiss}
use Rattle.meaning.proofs.PathsLaws.{without_yes, without_no}
use Rattle.meaning.proofs.TestsLaws.{natural_yes}
use Rattle.meaning.proofs.AmissLaws.{value_ranged, exactly_0}
use Rattle.halves.specs.V1Half.{V1Entry, is_there, has_string, bytes_of, names_full, names_of, path_full, path_names, letter_p, string_or_none, is_padding, path_fits, entry_fits, entry_of, items_fit, entries_in, list_fits, list_entries, one_file, half_fits, v1_entries, total, same_path, files_among, same_files, on_boundary, pieces_fit, is_hybrid, halves_fit, torrent_number}
use Rattle.halves.specs.Halves.{Names, none, name, PathIs, PathGiven, given, left_out, AttrIs, missing, plain, padding, EntryIs, EntriesAre, more, NameOrNone, named, V1Files, single, several, SameFiles, aside, one, start_at, PiecesRight, HalvesAgree, Amiss31}

-- ---- what is there

there_yes : (x : Lookup) → is_there x ≡ true → x ≡ absent → ⊥
there_yes absent e q = false≢true e
there_yes (present v) e q = false≢true (sym (ap is_there q) ∙ refl)

there_no : (x : Lookup) → is_there x ≡ false → x ≡ absent
there_no absent e = refl
there_no (present v) e = absurd (false≢true (sym e))

string_yes : (x : Lookup) → has_string x ≡ true → x ≡ present (string (bytes_of x))
string_yes (present (string b)) e = refl
string_yes absent e = absurd (false≢true e)
string_yes (present (integer minus n)) e = absurd (false≢true e)
string_yes (present (list vs)) e = absurd (false≢true e)
string_yes (present (dictionary es)) e = absurd (false≢true e)

-- ---- a path

names_yes : (vs : Items) → names_full vs ≡ true → Names vs (names_of vs)
unfolding names_full names_of
names_yes no_items e = none
names_yes (item (string []) vs) e = absurd (false≢true e)
names_yes (item (string (c ∷ cs)) vs) e = name c cs vs (names_of vs) (names_yes vs e)
names_yes (item (integer minus n) vs) e = absurd (false≢true e)
names_yes (item (list ws) vs) e = absurd (false≢true e)
names_yes (item (dictionary es) vs) e = absurd (false≢true e)

names_only : (vs : Items) (ns : List (List ℕ)) → Names vs ns → (names_full vs ≡ true) × (names_of vs ≡ ns)
unfolding names_full names_of
names_only vs ns none = (refl, refl)
names_only vs ns (name c cs us ms p) = let i = names_only us ms p in (i.0, ap (λ (l : List (List ℕ)). (c ∷ cs) ∷ l) i.1)

path_yes : (x : Lookup) → path_full x ≡ true → PathIs x (path_names x)
unfolding names_of
path_yes (present (list no_items)) e = absurd (false≢true e)
path_yes (present (list (item v vs))) e = record { items = item v vs; a_list = refl; names = names_yes (item v vs) e; some = some v }
  where
    some : (v : Value) → names_of (item v vs) ≡ [] → ⊥
    some (string b) q = let z : ◌≡◌ {A = ℕ} 1 0 = cc in omega arith
    some (integer minus n) q = let z : ◌≡◌ {A = ℕ} 1 0 = cc in omega arith
    some (list ws) q = let z : ◌≡◌ {A = ℕ} 1 0 = cc in omega arith
    some (dictionary es) q = let z : ◌≡◌ {A = ℕ} 1 0 = cc in omega arith
path_yes absent e = absurd (false≢true e)
path_yes (present (integer minus n)) e = absurd (false≢true e)
path_yes (present (string b)) e = absurd (false≢true e)
path_yes (present (dictionary es)) e = absurd (false≢true e)

list_full : (vs : Items) → names_full vs ≡ true → (names_of vs ≡ [] → ⊥) → path_full (present (list vs)) ≡ true
unfolding names_of
list_full no_items e h = absurd (h refl)
list_full (item v vs) e h = e

path_only : (x : Lookup) (p : List (List ℕ)) → PathIs x p → (path_full x ≡ true) × (path_names x ≡ p)
path_only x p h =
    let n = names_only h.items p h.names in
    (ap path_full h.a_list ∙ list_full h.items n.0 (λ z. h.some (sym n.1 ∙ z)), ap path_names h.a_list ∙ n.1)

-- it is given, or left out of padding
given_yes : (t : Bool) (x : Lookup) → path_fits t x ≡ true → PathGiven x t (path_names x)
given_yes t x e = by_path_lem (path_full x) refl e
  where
    by_none : (u : Bool) → is_there x ≡ u → (v : Bool) → t ≡ v → v && not u ≡ true → PathGiven x t (path_names x)
    by_none u q false f h = absurd (false≢true h)
    by_none true q true f h = absurd (false≢true h)
    by_none false q true f h = rw (there_no x q, f) left_out

    by_path_lem : (u : Bool) → path_full x ≡ u → u || (t && not (is_there x)) ≡ true → PathGiven x t (path_names x)
    by_path_lem true q h = given x t (path_names x) (path_yes x q)
    by_path_lem false q h = by_none (is_there x) refl t refl h

given_only : (x : Lookup) (t : Bool) (p : List (List ℕ)) → PathGiven x t p → (path_fits t x ≡ true) × (path_names x ≡ p)
given_only x t p (given y u q h) = let n = path_only y q h in (rw n.0 refl, n.1)
given_only x t p left_out = (refl, refl)

-- ---- `attr`

found : (b : ℕ) (s : List ℕ) → without b s ≡ false → Member b s
unfolding without Member
found b [] h = absurd (false≢true (sym h))
found b (c ∷ cs) h = by_byte (eqb c b) refl h (found b cs)
  where
    by_byte : (t : Bool) → eqb c b ≡ t → not t && without b cs ≡ false → (without b cs ≡ false → Member b cs) → (b ≡ c) ⊎ Member b cs
    by_byte true q g i = inl (sym (eqb-true c b q))
    by_byte false q g i = inr (i g)

attr_string : (b : List ℕ) (t : Bool) → without letter_p b ≡ t → AttrIs (present (string b)) (not t)
attr_string b true e = plain b (without_yes letter_p b e)
attr_string b false e = padding b (found letter_p b e)

attr_yes : (x : Lookup) → string_or_none x ≡ true → AttrIs x (is_padding x)
unfolding without
attr_yes absent e = missing
attr_yes (present (string b)) e = attr_string b (without letter_p b) refl
attr_yes (present (integer minus n)) e = absurd (false≢true e)
attr_yes (present (list vs)) e = absurd (false≢true e)
attr_yes (present (dictionary es)) e = absurd (false≢true e)

attr_only : (x : Lookup) (t : Bool) → AttrIs x t → (string_or_none x ≡ true) × (is_padding x ≡ t)
unfolding without
attr_only x t missing = (refl, refl)
attr_only x t (plain b h) = (refl, ap not (without_no letter_p b h))
attr_only x t (padding b m) = (refl, by_test (without letter_p b) refl)
  where
    by_test : (u : Bool) → without letter_p b ≡ u → not u ≡ true
    by_test true q = absurd (without_yes letter_p b q m)
    by_test false q = refl

-- ---- an entry, and all of them

-- two tests, and three
two_true : (a b : Bool) → a && b ≡ true → (a ≡ true) × (b ≡ true)
two_true a b e = (and-eq-true_iff a b).0 e

entry_yes : (v : Value) → entry_fits v ≡ true → EntryIs v (entry_of v)
unfolding entry_fits
entry_yes (integer minus n) e = absurd (false≢true e)
entry_yes (string b) e = absurd (false≢true e)
entry_yes (list vs) e = absurd (false≢true e)
entry_yes (dictionary es) e =
    let p = two_true (is_natural (lookup key_length es)) (string_or_none (lookup key_attr es) && path_fits (is_padding (lookup key_attr es)) (lookup key_path es)) e in
    let q = two_true (string_or_none (lookup key_attr es)) (path_fits (is_padding (lookup key_attr es)) (lookup key_path es)) p.1 in
    record {
      properties = es;
      a_dictionary = refl;
      length_is = natural_yes (lookup key_length es) p.0;
      path_is = given_yes (is_padding (lookup key_attr es)) (lookup key_path es) q.1;
      attr_is = attr_yes (lookup key_attr es) q.0;
    }

entry_same : (e : V1Entry) (t : Bool) (n : ℕ) (p : List (List ℕ)) → t ≡ e.padding → n ≡ e.size → p ≡ e.path → record { padding = t; size = n; path = p } ≡ e
entry_same e t n p et en ep = rw (et, en, ep) refl

entry_only : (v : Value) (e : V1Entry) → EntryIs v e → (entry_fits v ≡ true) × (entry_of v ≡ e)
unfolding entry_fits
entry_only v e h =
    let p = given_only (lookup key_path h.properties) e.padding e.path h.path_is in
    let a = attr_only (lookup key_attr h.properties) e.padding h.attr_is in (
      ap entry_fits h.a_dictionary ∙ rw (h.length_is, a.0, a.1, p.0) refl,
      ap entry_of h.a_dictionary ∙ entry_same e _ _ _ a.1 (ap number_of h.length_is) p.1,
    )

entries_yes : (vs : Items) → items_fit vs ≡ true → EntriesAre vs (entries_in vs)
unfolding items_fit entries_in
entries_yes no_items e = none
entries_yes (item v vs) e =
    let p = two_true (entry_fits v) (items_fit vs) e in
    more v vs (entry_of v) (entries_in vs) (entry_yes v p.0) (entries_yes vs p.1)

entries_only : (vs : Items) (es : List V1Entry) → EntriesAre vs es → (items_fit vs ≡ true) × (entries_in vs ≡ es)
unfolding items_fit entries_in
entries_only vs es none = (refl, refl)
entries_only vs es (more v us e fs h t) =
    let p = entry_only v e h in
    let i = entries_only us fs t in
    (rw (p.0, i.0) refl, rw (p.1, i.1) refl)

-- ---- the half

list_yes : (x : Lookup) → list_fits x ≡ true → (vs : Items) × (x ≡ present (list vs)) × EntriesAre vs (list_entries x)
list_yes (present (list vs)) e = (vs, refl, entries_yes vs e)
list_yes absent e = absurd (false≢true e)
list_yes (present (integer minus n)) e = absurd (false≢true e)
list_yes (present (string b)) e = absurd (false≢true e)
list_yes (present (dictionary es)) e = absurd (false≢true e)

name_yes : (x : Lookup) → string_or_none x ≡ true → NameOrNone x
name_yes absent e = missing
name_yes (present (string b)) e = named b
name_yes (present (integer minus n)) e = absurd (false≢true e)
name_yes (present (list vs)) e = absurd (false≢true e)
name_yes (present (dictionary es)) e = absurd (false≢true e)

name_only : (x : Lookup) → NameOrNone x → string_or_none x ≡ true
name_only x missing = refl
name_only x (named b) = refl

half_yes : (info : Entries) → half_fits info ≡ true → V1Files info (v1_entries info)
unfolding half_fits v1_entries
half_yes info e = by_form (is_there (lookup key_files info)) refl e
  where
    x : Lookup
    x = lookup key_length info

    y : Lookup
    y = lookup key_files info

    z : Lookup
    z = lookup key_name info

    by_form : (t : Bool) → is_there y ≡ t → cond t (not (is_there x) && (list_fits y && string_or_none z)) (is_natural x && has_string z) ≡ true
        → V1Files info (cond t (list_entries y) (one_file (number_of x) (bytes_of z) ∷ []))
    by_form true q h =
        let p = two_true (not (is_there x)) (list_fits y && string_or_none z) h in
        let r = two_true (list_fits y) (string_or_none z) p.1 in
        let l = list_yes y r.0 in
        several l.0 (list_entries y) (there_no x (not-true (is_there x) p.0)) l.1 l.2 (name_yes z r.1)
    by_form false q h =
        let p = two_true (is_natural x) (has_string z) h in
        single (number_of x) (bytes_of z) (there_no y q) (natural_yes x p.0) (string_yes z p.1)

half_only : (info : Entries) (es : List V1Entry) → V1Files info es → (half_fits info ≡ true) × (v1_entries info ≡ es)
unfolding half_fits v1_entries
half_only info es (single n b no_files length_is name_is) = (rw (no_files, length_is, name_is) refl, rw (no_files, length_is, name_is) refl)
half_only info es (several vs fs no_length files-is are named-or) =
    let p = entries_only vs fs are in
    (rw (no_length, files-is, p.0, name_only (lookup key_name info) named-or) refl, rw (files-is, p.1) refl)

-- ---- the same files

path_true : (p q : List (List ℕ)) → same_path p q ≡ true → p ≡ q
unfolding same_path
path_true [] [] e = refl
path_true [] (y ∷ ys) e = absurd (false≢true e)
path_true (x ∷ xs) [] e = absurd (false≢true e)
path_true (x ∷ xs) (y ∷ ys) e = let t = two_true (same x y) (same_path xs ys) e in rw (same_true x y t.0, path_true xs ys t.1) refl

path_itself : (p : List (List ℕ)) → same_path p p ≡ true
unfolding same_path
path_itself [] = refl
path_itself (x ∷ xs) = rw (same_eq x x refl, path_itself xs) refl

path_eq : (p q : List (List ℕ)) → p ≡ q → same_path p q ≡ true
path_eq p q e = rw e (path_itself q)

same_yes : (es : List V1Entry) (fs : List File) → same_files (files_among es) fs ≡ true → SameFiles es fs
unfolding files_among same_files
same_yes [] [] e = none
same_yes [] (f ∷ fs) e = absurd (false≢true e)
same_yes (v ∷ es) fs e = by_kind v.padding refl fs e (same_yes es)
  where
    by_kind : (t : Bool) → v.padding ≡ t → (gs : List File) → same_files (cond t (files_among es) (v ∷ files_among es)) gs ≡ true → ((hs : List File) → same_files (files_among es) hs ≡ true → SameFiles es hs)
        → SameFiles (v ∷ es) gs
    by_kind true q gs h i = aside v es gs q (i gs h)
    by_kind false q [] h i = absurd (false≢true h)
    by_kind false q (g ∷ gs) h i =
        let a = two_true (eqb v.size g.size) (same_path v.path g.path && same_files (files_among es) gs) h in
        let b = two_true (same_path v.path g.path) (same_files (files_among es) gs) a.1 in
        one v es g gs q (eqb-true v.size g.size a.0) (path_true v.path g.path b.0) (i gs b.1)

same_only : (es : List V1Entry) (fs : List File) → SameFiles es fs → same_files (files_among es) fs ≡ true
unfolding files_among same_files
same_only es fs none = refl
same_only es fs (aside v us gs q t) = rw q (same_only us gs t)
same_only es fs (one v us g gs q n p t) = rw (q, eq-eqb v.size g.size n, path_eq v.path g.path p, same_only us gs t) refl

-- ---- on a boundary

boundary_yes : (plen at : ℕ) (es : List V1Entry) → on_boundary plen at es ≡ true → (i : ℕ) (e : V1Entry) → Nth es i e → e.padding ≡ false → (at + start_at es i) % plen ≡ 0
unfolding on_boundary Nth start_at
boundary_yes plen at [] h i e n q = absurd n
boundary_yes plen at (v ∷ es) h zero e n q =
    let a = two_true (v.padding || eqb (at % plen) 0) (on_boundary plen (at + v.size) es) h in
    let z : at + 0 ≡ at = omega arith in
    rw z (first v.padding (sym (ap (λ (x : V1Entry). x.padding) n) ∙ q) a.0)
  where
    first : (t : Bool) → t ≡ false → t || eqb (at % plen) 0 ≡ true → at % plen ≡ 0
    first true f g = absurd (false≢true (sym f))
    first false f g = eqb-true (at % plen) 0 g
boundary_yes plen at (v ∷ es) h (suc i) e n q =
    let a = two_true (v.padding || eqb (at % plen) 0) (on_boundary plen (at + v.size) es) h in
    rw (sym (add_assoc at v.size (start_at es i))) (boundary_yes plen (at + v.size) es a.1 i e n q)

boundary_only : (plen at : ℕ) (es : List V1Entry) → ((i : ℕ) (e : V1Entry) → Nth es i e → e.padding ≡ false → (at + start_at es i) % plen ≡ 0) → on_boundary plen at es ≡ true
unfolding on_boundary Nth start_at
boundary_only plen at [] h = refl
boundary_only plen at (v ∷ es) h =
    rw (first v.padding refl, boundary_only plen (at + v.size) es (λ i e n q. rw (add_assoc at v.size (start_at es i)) (h (suc i) e n q))) refl
  where
    first : (t : Bool) → v.padding ≡ t → t || eqb (at % plen) 0 ≡ true
    first true q = refl
    first false q = eq-eqb (at % plen) 0 (let z : at + 0 ≡ at = omega arith in rw z at (h 0 v refl q))

-- ---- `pieces`

pieces_yes : (plen : ℕ) (es : List V1Entry) (x : Lookup) → pieces_fit plen (total es) x ≡ true → PiecesRight plen es x
pieces_yes plen es x e =
    let p = two_true (has_string x) (eqb (length (bytes_of x)) (20 * piece_count (total es) plen)) e in
    record { hashes = bytes_of x; a_string = string_yes x p.0; twenty_each = eqb-true (length (bytes_of x)) (20 * piece_count (total es) plen) p.1 }

pieces_only : (plen : ℕ) (es : List V1Entry) (x : Lookup) → PiecesRight plen es x → pieces_fit plen (total es) x ≡ true
pieces_only plen es x p = rw p.a_string (eq-eqb (length p.hashes) (20 * piece_count (total es) plen) p.twenty_each)

-- ---- both halves

module _ (torrent : Entries) where
  abbrev es : List V1Entry
  es = v1_entries (info_of torrent)

  pub halves_yes : halves_fit torrent ≡ true → HalvesAgree torrent
  unfolding halves_fit
  halves_yes e =
      let p = two_true (half_fits (info_of torrent)) (same_files (files_among es) (files_of torrent) && (on_boundary (plen_of torrent) 0 es && pieces_fit (plen_of torrent) (total es) (lookup key_pieces (info_of torrent)))) e in
      let q = two_true (same_files (files_among es) (files_of torrent)) (on_boundary (plen_of torrent) 0 es && pieces_fit (plen_of torrent) (total es) (lookup key_pieces (info_of torrent))) p.1 in
      let r = two_true (on_boundary (plen_of torrent) 0 es) (pieces_fit (plen_of torrent) (total es) (lookup key_pieces (info_of torrent))) q.1 in
      record {
        entries = es;
        v1_files = half_yes (info_of torrent) p.0;
        same_files_lem = same_yes es (files_of torrent) q.0;
        on_boundary_lem = λ i v n k. rw zero-add at (boundary_yes (plen_of torrent) 0 es r.0 i v n k);
        pieces = pieces_yes (plen_of torrent) es (lookup key_pieces (info_of torrent)) r.1;
      }

  pub halves_only : HalvesAgree torrent → halves_fit torrent ≡ true
  unfolding halves_fit
  halves_only h =
      let p = half_only (info_of torrent) h.entries h.v1_files in
      rw (p.0, p.1, same_only h.entries (files_of torrent) h.same_files_lem, boundary_only (plen_of torrent) 0 h.entries (λ i v n k. rw zero-add (h.on_boundary_lem i v n k)))
      (pieces_only (plen_of torrent) h.entries (lookup key_pieces (info_of torrent)) h.pieces)

  -- ---- the number

  -- the test behind 28
  abbrev test : Bool
  test = not (is_hybrid torrent) || halves_fit torrent

  test_no : test ≡ false → Amiss31 torrent
  test_no e = by_kind (is_hybrid torrent) refl e
    where
      by_kind : (t : Bool) → is_hybrid torrent ≡ t → not t || halves_fit torrent ≡ false → Amiss31 torrent
      by_kind true q h = (there_yes (lookup key_pieces (info_of torrent)) q, λ a. false≢true (sym h ∙ halves_only a))
      by_kind false q h = absurd (false≢true (sym h))

  test_yes : test ≡ true → Amiss31 torrent → ⊥
  test_yes e w = by_kind (is_hybrid torrent) refl e
    where
      by_kind : (t : Bool) → is_hybrid torrent ≡ t → not t || halves_fit torrent ≡ true → ⊥
      by_kind true q h = w.1 (halves_yes h)
      by_kind false q h = w.0 (there_no (lookup key_pieces (info_of torrent)) q)

  -- where nothing is amiss in the v2 half, the test decides
  behind_28 : value_number torrent ≡ 0 → torrent_number torrent ≡ cond test 0 halves_differ
  unfolding torrent_number
  behind_28 z = rw z refl

  -- a lower number stands
  pub lower_first : (value_number torrent ≡ 0 → ⊥) → torrent_number torrent ≡ value_number torrent
  unfolding torrent_number
  lower_first h = rw (ne_eqb (value_number torrent) 0 h) refl

  -- what 22 to 28 say, they say as before
  pub lower_exactly : (n : ℕ) → 0 < n → n ≤ layer_differs → (torrent_number torrent ≡ n) ↔ (value_number torrent ≡ n)
  lower_exactly n l h = (λ q. by_number (eqb (value_number torrent) 0) refl q, λ q. lower_first (λ z. omega arith) ∙ q)
    where
      by_test : (t : Bool) → cond t 0 halves_differ ≡ n → ⊥
      by_test true q = omega arith
      by_test false q = omega arith

      by_number : (t : Bool) → eqb (value_number torrent) 0 ≡ t → torrent_number torrent ≡ n → value_number torrent ≡ n
      by_number true e q = absurd (by_test test (sym (behind_28 (eqb-true (value_number torrent) 0 e)) ∙ q))
      by_number false e q = sym (lower_first (eqb-false (value_number torrent) 0 e)) ∙ q

  -- 31 EXACTLY WHEN nothing is amiss in the v2 half, the torrent is hybrid, and its halves don't agree
  pub exactly_31 : (torrent_number torrent ≡ halves_differ) ↔ (NoneAmiss torrent × Amiss31 torrent)
  exactly_31 = (λ q. by_number (eqb (value_number torrent) 0) refl q, λ w. behind_28 ((exactly_0 torrent).1 w.0) ∙ rw (fails test refl w.1) refl)
    where
      fails : (t : Bool) → test ≡ t → Amiss31 torrent → t ≡ false
      fails true e w = absurd (test_yes e w)
      fails false e w = refl

      by_test : (t : Bool) → test ≡ t → cond t 0 halves_differ ≡ halves_differ → Amiss31 torrent
      by_test true e q = absurd (omega arith)
      by_test false e q = test_no e

      by_number : (t : Bool) → eqb (value_number torrent) 0 ≡ t → torrent_number torrent ≡ halves_differ → NoneAmiss torrent × Amiss31 torrent
      by_number true e q = let z = eqb-true (value_number torrent) 0 e in ((exactly_0 torrent).0 z, by_test test refl (sym (behind_28 z) ∙ q))
      by_number false e q =
          let z = sym (lower_first (eqb-false (value_number torrent) 0 e)) ∙ q in
          absurd (elim (value_ranged torrent) [ inl y ↦ omega arith | inr p ↦ (let w = p.1 in omega arith) ])

  -- 0 EXACTLY WHEN nothing is amiss
  pub read_exactly : (torrent_number torrent ≡ 0) ↔ (NoneAmiss torrent × (Amiss31 torrent → ⊥))
  read_exactly = (λ q. by_number (eqb (value_number torrent) 0) refl q, λ w. behind_28 ((exactly_0 torrent).1 w.0) ∙ rw (passes test refl w.1) refl)
    where
      passes : (t : Bool) → test ≡ t → (Amiss31 torrent → ⊥) → t ≡ true
      passes true e w = refl
      passes false e w = absurd (w (test_no e))

      by_test : (t : Bool) → test ≡ t → cond t 0 halves_differ ≡ 0 → Amiss31 torrent → ⊥
      by_test true e q = test_yes e
      by_test false e q = absurd (omega arith)

      by_number : (t : Bool) → eqb (value_number torrent) 0 ≡ t → torrent_number torrent ≡ 0 → NoneAmiss torrent × (Amiss31 torrent → ⊥)
      by_number true e q = let z = eqb-true (value_number torrent) 0 e in ((exactly_0 torrent).0 z, by_test test refl (sym (behind_28 z) ∙ q))
      by_number false e q = absurd (eqb-false (value_number torrent) 0 e (sym (lower_first (eqb-false (value_number torrent) 0 e)) ∙ q))

  -- a pure v2 torrent gets the number that it got before
  pub pure_stands : lookup key_pieces (info_of torrent) ≡ absent → torrent_number torrent ≡ value_number torrent
  pure_stands none_there = by_number (eqb (value_number torrent) 0) refl
    where
      by_number : (t : Bool) → eqb (value_number torrent) 0 ≡ t → torrent_number torrent ≡ value_number torrent
      by_number true e = let z = eqb-true (value_number torrent) 0 e in behind_28 z ∙ rw none_there (sym z)
      by_number false e = lower_first (eqb-false (value_number torrent) 0 e)

  -- of a torrent that is read the v2 half says 0
  pub zero_below : torrent_number torrent ≡ 0 → value_number torrent ≡ 0
  zero_below q = (exactly_0 torrent).1 (read_exactly.0 q).0

  -- no other numbers
  pub torrent_ranged : (torrent_number torrent ≡ 0) ⊎ (((22 ≤ torrent_number torrent) × (torrent_number torrent ≤ layer_differs)) ⊎ (torrent_number torrent ≡ halves_differ))
  torrent_ranged = by_number (eqb (value_number torrent) 0) refl
    where
      by_test : (t : Bool) → torrent_number torrent ≡ cond t 0 halves_differ → (torrent_number torrent ≡ 0) ⊎ (((22 ≤ torrent_number torrent) × (torrent_number torrent ≤ layer_differs)) ⊎ (torrent_number torrent ≡ halves_differ))
      by_test true q = inl q
      by_test false q = inr (inr q)

      by_number : (t : Bool) → eqb (value_number torrent) 0 ≡ t → (torrent_number torrent ≡ 0) ⊎ (((22 ≤ torrent_number torrent) × (torrent_number torrent ≤ layer_differs)) ⊎ (torrent_number torrent ≡ halves_differ))
      by_number true e = by_test test (behind_28 (eqb-true (value_number torrent) 0 e))
      by_number false e =
          let same = lower_first (eqb-false (value_number torrent) 0 e) in
          elim (value_ranged torrent) [ inl z ↦ absurd (eqb-false (value_number torrent) 0 e z) | inr p ↦ inr (inl (rw same p)) ]
