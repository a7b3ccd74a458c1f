-- The numbers of a torrent, one after the other, as the code comes to them.
-- Assumes nothing.
use Rattle.filetree.specs.Count.{past}
use Rattle.std.specs.Prelude.{◌≡◌, refl, Bool, true, false, cond, not, ◌&&◌, ◌||◌, List, [], ◌++◌, ℕ, zero, suc, ◌+◌, ◌-◌, ◌≤◌, ◌<◌, length, take, drop, get_or, eqb, None, Some, unwrap_or}
use Rattle.std.proofs.Common.{sym, ap, ◌∙◌, append_assoc, append-nil, arith, length-append, get_or-take, take_at, eq-eqb, ne_eqb}
use Rattle.std.proofs.lemmas.Bool.{false≢true}
use Rattle.limits.specs.Limits.{largest_torrent, max_levels}
use Rattle.octets.specs.Octets.{cut, pasted}
use Rattle.octets.specs.OctetsLaws.{cut_size}
use Rattle.numbers.specs.Numbers.{wrong_tree, two_lengths, layers_amiss, halves_differ}
use Rattle.sorting.specs.Sorting.{sorted, thinned}
use Rattle.sorting.specs.ThinnedLaws.{once_ascending, once_fits, once_stands}
use Rattle.bencode.specs.Grammar.{dictionary, Entries, encode, Valid, none}
use Rattle.bencode.specs.DepthLaws.{more_levels}
use Rattle.bencode.specs.PartsLaws.{lookup_valid}
use Rattle.meaning.specs.Keys.{key_info}
use Rattle.meaning.specs.Torrent.{info_of, plen_of, File, files_of, lengths_agree}
use Rattle.halves.specs.Decoded.{decoded, torrent_in}
use Rattle.halves.specs.V1Half.{is_hybrid, halves_fit}
use Rattle.hybrid.specs.Entry.{StandsAt}
use Rattle.metainfo.specs.Metainfo.{Keys, bytes_in, keys_of, metainfo_of}
use Rattle.metainfo.specs.MetainfoLaws.{metainfo_right}
use Rattle.filetree.specs.Tree.{Listed, Files, wrong, files, right, listed, files_in, roots_of}
use Rattle.filetree.specs.Reading.{read_files}
use Rattle.filetree.specs.Count.{most_roots, no_tally, tally_after, counted_of}
use Rattle.filetree.specs.CountLaws.{CountedTree}
use Rattle.filetree.specs.FilesLaws.{files_right, roots_right}
use Rattle.filetree.specs.declared.count.Tally.{Tally}
use Rattle.filetree.specs.declared.count.Counted.{Counted}
use Rattle.twins.specs.Twins.{layer_count, compared_of, Rooted}
use Rattle.twins.specs.WalkLaws.{roots_stand, layers_roots}
use Rattle.layers.specs.Layers.{keys_wide, layer_keys, Indexed, LayersOpen, worst}
use Rattle.torrent.specs.Torrent.{Checked, Judged, files_number, tree_number, judged_as, judged_of, unread, v2_checked_of, checked_of}
use Rattle.joined.specs.KeysLaws.{KeysAt, keys_point}
use Rattle.joined.specs.StrictTorrentLaws.{torrent_files}
use Rattle.torrent.specs.HalvesFit.{fit_beside}
use Rattle.torrent.specs.CheckLaws.{Open, keys_open, Whole, v2_so}

pub judged_refused : (n count layered : ℕ) → (n ≡ 0 → ⊥) → ◌≡◌ {A = Judged} (record { number = n; files = 0; layered = 0 }) (judged_as n count layered)
judged_refused zero count layered h = absurd (h refl)
judged_refused (suc n) count layered h = refl

-- ---- what was counted

wrong_so : (x : Files) → None ≡ counted_of no_tally x → right x ≡ false
unfolding counted_of right
wrong_so wrong q = refl
wrong_so (files fs k) q = let z : ◌≡◌ {A = ℕ} 0 1 = cc in absurd (omega arith)

right_so : (k : ℕ) (c : Tally) (x : Files) → past k c ≡ counted_of no_tally x → (right x ≡ true) × (c.files ≡ length (listed x)) × (c.roots ≡ length (roots_of (listed x)))
unfolding counted_of right listed tally_after
right_so k c wrong q = let z : ◌≡◌ {A = ℕ} 0 1 = cc in absurd (omega arith)
right_so k c (files gs j) q =
    let p : c ≡ record { files = 0 + length gs; roots = 0 + length (roots_of gs) } = ap (λ w. (unwrap_or {T = Counted} w (record { next = k; tally = c })).tally) q in
    let a = ap (λ (z : Tally). z.files) p in
    let b = ap (λ (z : Tally). z.roots) p in
    (refl, omega arith, omega arith)

-- a list that stands at the start of another
start_fits : (s xs : List ℕ) → length xs ≤ length (pasted s 0 xs)
unfolding pasted
start_fits s xs = let e = length-append xs (drop (0 + length xs) s) in omega arith

start_taken : (s xs : List ℕ) (n : ℕ) → n ≡ length xs → take n (pasted s 0 xs) ≡ xs
unfolding pasted
start_taken s xs n e = take_at xs (drop (0 + length xs) s) n (sym e)

-- the lengths agree where so many layers are counted, and do not where they differ
agree_so : (plen layered : ℕ) (vs : List File) → Some layered ≡ compared_of plen vs → (lengths_agree vs ≡ true) × (layered ≡ layer_count plen vs)
unfolding compared_of
agree_so plen layered vs e = by_lengths (lengths_agree vs) refl e
  where
    by_lengths : (b : Bool) → lengths_agree vs ≡ b → Some layered ≡ cond b (Some (layer_count plen vs)) None → (lengths_agree vs ≡ true) × (layered ≡ layer_count plen vs)
    by_lengths true q f = let z : layered ≡ layer_count plen vs = cc in (q, z)
    by_lengths false q f = let z : ◌≡◌ {A = ℕ} 0 1 = cc in absurd (omega arith)

differ_so : (plen : ℕ) (vs : List File) → None ≡ compared_of plen vs → lengths_agree vs ≡ false
unfolding compared_of
differ_so plen vs e = by_lengths (lengths_agree vs) refl e
  where
    by_lengths : (b : Bool) → lengths_agree vs ≡ b → None ≡ cond b (Some (layer_count plen vs)) None → lengths_agree vs ≡ false
    by_lengths true q f = let z : ◌≡◌ {A = ℕ} 0 1 = cc in absurd (omega arith)
    by_lengths false q f = q

module _ (t l : List ℕ) (plen : ℕ) where
  pub judged_wrong : None ≡ counted_of no_tally (files_in t) → ◌≡◌ {A = Judged} (record { number = wrong_tree; files = 0; layered = 0 }) (judged_of t l plen)
  unfolding judged_of tree_number
  judged_wrong e = rw (wrong_so (files_in t) e) refl

  module _ (k : ℕ) (c : Tally) (roots₀ roots : List ℕ) (e : CountedTree t roots₀ roots (past k c)) (sized : length roots ≡ most_roots) where
    abbrev fs : List Listed
    fs = listed (files_in t)

    abbrev vs : List File
    vs = read_files t fs

    so : (right (files_in t) ≡ true) × (c.files ≡ length fs) × (c.roots ≡ length (roots_of fs))
    so = right_so k c (files_in t) e.0

    pub counted_right : right (files_in t) ≡ true
    counted_right = so.0

    pub full_fits : c.roots ≤ most_roots
    full_fits = let a = start_fits roots₀ (roots_of fs) in let b = ap length (e.1 so.0) in let d = so.2 in omega arith

    taken_roots : take c.roots roots ≡ roots_of fs
    taken_roots = ap (take c.roots) (e.1 so.0) ∙ start_taken roots₀ (roots_of fs) c.roots so.2

    roots_fit : (i : ℕ) → i < length (roots_of fs) → get_or (roots_of fs) i 0 + 32 ≤ length t
    roots_fit = roots_right (length t) fs (files_right t)

    pub full_within : (i : ℕ) → i < c.roots → get_or roots i 0 + 32 ≤ length t
    full_within i h =
        let q : get_or (roots_of fs) i 0 ≡ get_or roots i 0 = ap (λ (z : List ℕ). get_or z i 0) (sym taken_roots) ∙ get_or-take c.roots roots i 0 h in
        rw q at (roots_fit i (rw so.2 at h))

    -- the roots once each
    module _ (m : ℕ) (em : m ≡ length (thinned t (sorted t (take c.roots roots)))) (once : List ℕ)
        (eo : once ≡ (thinned t (sorted t (take c.roots roots)) ++ drop m (sorted t (take c.roots roots))) ++ drop c.roots roots) where
      abbrev kept : List ℕ
      kept = thinned t (sorted t (roots_of fs))

      abbrev rest : List ℕ
      rest = drop m (sorted t (take c.roots roots)) ++ drop c.roots roots

      size : m ≡ length kept
      size = em ∙ ap (λ (z : List ℕ). length (thinned t (sorted t z))) taken_roots

      front : once ≡ kept ++ rest
      front =
          eo ∙ append_assoc (thinned t (sorted t (take c.roots roots))) (drop m (sorted t (take c.roots roots))) (drop c.roots roots)
          ∙ ap (λ (z : List ℕ). thinned t (sorted t z) ++ rest) taken_roots

      pub once_inside : m ≤ length once
      once_inside = let a = ap length front in let b = length-append kept rest in let d = size in omega arith

      pub roots_once : Rooted t once m
      roots_once =
          record {
            room = once_inside;
            fit = once_fits t (roots_of fs) m once rest size front (length t) roots_fit;
            ascending = once_ascending t (roots_of fs) m once rest size front;
            stand = roots_stand t once m fs (once_stands t (roots_of fs) m once rest size front);
          }

    number_is : (b : Bool) → lengths_agree vs ≡ b → tree_number t l plen (files_in t) ≡ cond b (cond (keys_wide l && eqb (length (layer_keys l)) (layer_count plen vs)) (worst t l plen 0 fs) layers_amiss) two_lengths
    unfolding tree_number files_number
    number_is b q = rw so.0 (rw q refl)

    pub judged_same : None ≡ compared_of plen vs → ◌≡◌ {A = Judged} (record { number = two_lengths; files = 0; layered = 0 }) (judged_of t l plen)
    unfolding judged_of
    judged_same q = sym (ap (λ (z : ℕ). judged_as z (length fs) (layer_count plen vs)) (number_is false (differ_so plen vs q)))

    module _ (layered : ℕ) (q : Some layered ≡ compared_of plen vs) where
      agreed : (lengths_agree vs ≡ true) × (layered ≡ layer_count plen vs)
      agreed = agree_so plen layered vs q

      pub long_fits : layered ≤ most_roots
      long_fits = let a = agreed.1 in let b = layers_roots plen t fs in let d = full_fits in let f = so.2 in omega arith

      module _ (x : Bool) (ex : x ≡ (keys_wide l && eqb (length (layer_keys l)) layered)) where
        layers_are : (b : Bool) → x ≡ b → tree_number t l plen (files_in t) ≡ cond b (worst t l plen 0 fs) layers_amiss
        layers_are b g =
            number_is true agreed.0
            ∙ ap (λ (z : Bool). cond z (worst t l plen 0 fs) layers_amiss) (ap (λ (z : ℕ). keys_wide l && eqb (length (layer_keys l)) z) (sym agreed.1) ∙ sym ex ∙ g)

        pub judged_amiss : x ≡ false → ◌≡◌ {A = Judged} (record { number = layers_amiss; files = 0; layered = 0 }) (judged_of t l plen)
        unfolding judged_of
        judged_amiss g = sym (ap (λ (z : ℕ). judged_as z (length fs) (layer_count plen vs)) (layers_are false g))

        pub judged_number : x ≡ true → (n : ℕ) → n ≡ worst t l plen 0 fs → judged_as n c.files layered ≡ judged_of t l plen
        unfolding judged_of
        judged_number g n en = rw (en, so.1, agreed.1) (rw (layers_are true g) refl)

        -- the keys that were gathered
        pub keys_indexed : x ≡ true → (keys : List ℕ) → length keys ≡ most_roots → (x ≡ true → take layered keys ≡ layer_keys l) → LayersOpen l → Indexed l keys layered
        keys_indexed g keys z f o =
            let w : keys_wide l ≡ true = first (keys_wide l) (eqb (length (layer_keys l)) layered) (sym ex ∙ g) in
            let fits : layered ≤ length keys = rw z long_fits in
            record { opens = o.opens; wide = w; room = fits; all = f g; ascending = o.ascending w keys layered fits (f g) }
          where
            first : (a b : Bool) → (a && b) ≡ true → a ≡ true
            first true b z = refl
            first false b z = absurd (false≢true z)

-- ---- from the keys on

module _ (s : List ℕ) (k : Keys) (e : k ≡ metainfo_of s) where
  pub keys_refused : (k.number ≡ 0 → ⊥) → unread k.number ≡ v2_checked_of s
  unfolding v2_checked_of
  keys_refused h = rw (sym e) (simp (ne_eqb k.number 0 h))

  module _ (h : k.number ≡ 0) where
    pub opened : Open s k
    opened = rw e (keys_open s (ap (λ (z : Keys). z.number) (sym e) ∙ h))

    module _ (j : Judged) (ej : j ≡ judged_of (take (k.tree.end - k.tree.start) (drop k.tree.start s)) (take (k.layers.end - k.layers.start) (drop k.layers.start s)) k.plen) where
      judged_is : j ≡ judged_of (bytes_in s k.tree) (bytes_in s k.layers) k.plen
      unfolding cut
      judged_is = ej

      pub number_refused : (j.number ≡ 0 → ⊥) → unread j.number ≡ v2_checked_of s
      unfolding v2_checked_of
      number_refused g = rw (sym e) (simp (eq-eqb k.number 0 h) (rw (sym judged_is) (simp (ne_eqb j.number 0 g))))

      pub number_done : j.number ≡ 0 → ◌≡◌ {A = Checked} (record { keys = k; files = j.files; layered = j.layered }) (v2_checked_of s)
      unfolding v2_checked_of
      number_done g = rw (sym e) (simp (eq-eqb k.number 0 h) (rw (sym judged_is) (simp (eq-eqb j.number 0 g))))

    pub tree_small : length (take (k.tree.end - k.tree.start) (drop k.tree.start s)) ≤ largest_torrent
    unfolding cut
    tree_small = let o = opened in let x = o.tree_size in let y = o.tree_within in let z = o.small in omega arith

    pub layers_open : LayersOpen (take (k.layers.end - k.layers.start) (drop k.layers.start s))
    unfolding cut
    layers_open = opened.layers_open

-- ---- then the halves

module _ (s : List ℕ) (c : Checked) (e : c ≡ v2_checked_of s) where
  pub half_refused : (c.keys.number ≡ 0 → ⊥) → c ≡ checked_of s
  unfolding checked_of
  half_refused h = rw (sym e) (simp (ne_eqb c.keys.number 0 h))

  module _ (h : c.keys.number ≡ 0) where
    pub whole : Whole s c
    whole = v2_so s c e h

    -- the parts that `info` and `file tree` are
    abbrev i : List ℕ
    i = take (c.keys.info.end - c.keys.info.start) (drop c.keys.info.start s)

    abbrev t : List ℕ
    t = take (c.keys.tree.end - c.keys.tree.start) (drop c.keys.tree.start s)

    pub info_small : length i ≤ largest_torrent
    unfolding cut
    info_small = let o = whole.opened in let x = cut_size s c.keys.info.start (c.keys.info.end - c.keys.info.start) in let y = o.info_within in let z = o.small in omega arith

    pub half_tree : (right (files_in t) ≡ true) × (c.files ≡ length (listed (files_in t)))
    unfolding cut
    half_tree = (whole.tree_right_lem, whole.all_files)

    found : (metainfo_of s).number ≡ 0
    found = ap (λ (k : Keys). k.number) (sym whole.keys_are) ∙ h

    same_keys : c.keys ≡ keys_of s
    same_keys = whole.keys_are ∙ (metainfo_right s found).same_keys

    keys_zero : (keys_of s).number ≡ 0
    keys_zero = ap (λ (k : Keys). k.number) (sym same_keys) ∙ h

    -- the value that the torrent encodes
    abbrev es : Entries
    es = torrent_in s

    value : Valid (dictionary es) max_levels × (s ≡ encode (dictionary es))
    value = (decoded s).1 (metainfo_right s found).strict

    at_values : KeysAt s es (keys_of s)
    at_values = keys_point s es value.1 value.0 keys_zero

    info_valid : Valid (dictionary (info_of es)) max_levels
    info_valid =
        let v : Valid (dictionary (info_of es)) (max_levels - 1) = unfold Valid in lookup_valid key_info es none (max_levels - 1) (dictionary (info_of es)) value.0 at_values.info_value in
        more_levels (dictionary (info_of es)) (max_levels - 1) max_levels (omega arith) v

    info_is : i ≡ encode (dictionary (info_of es)) ++ []
    unfolding cut
    info_is = ap (λ (k : Keys). bytes_in s k.info) same_keys ∙ at_values.info_bytes ∙ sym (append-nil (encode (dictionary (info_of es))))

    info_stands : StandsAt i 0 (dictionary (info_of es))
    info_stands = record { behind = []; bytes = info_is; valid = info_valid }

    files_are : read_files t (listed (files_in t)) ≡ files_of es
    unfolding cut
    files_are =
        ap (λ (k : Keys). read_files (bytes_in s k.tree) (listed (files_in (bytes_in s k.tree)))) same_keys
        ∙ torrent_files s es value.1 value.0 keys_zero (ap (λ (k : Keys). right (files_in (bytes_in s k.tree))) (sym same_keys) ∙ whole.tree_right_lem)

    plen_is : c.keys.plen ≡ plen_of es
    plen_is = ap (λ (k : Keys). k.plen) same_keys ∙ at_values.plen_is

    module _ (r : Bool) (f : (info : Entries) → StandsAt i 0 (dictionary info) → r ≡ fit_beside c.keys.plen (read_files t (listed (files_in t))) info) where
      fits_is : r ≡ not (is_hybrid es) || halves_fit es
      unfolding halves_fit
      fits_is = f (info_of es) info_stands ∙ rw (plen_is, files_are) refl

      pub halves_right : r ≡ true → c ≡ checked_of s
      unfolding checked_of
      halves_right q = rw (sym e) (simp (eq-eqb c.keys.number 0 h) (rw (sym fits_is ∙ q) refl))

      pub halves_wrong : r ≡ false → unread halves_differ ≡ checked_of s
      unfolding checked_of
      halves_wrong q = rw (sym e) (simp (eq-eqb c.keys.number 0 h) (rw (sym fits_is ∙ q) refl))
