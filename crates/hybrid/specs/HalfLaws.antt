-- The v1 half beside the tree, from the tally and the walk.
-- Assumes nothing.
use Rattle.hybrid.specs.Tally.{sums}
use Rattle.hybrid.specs.Compare.{past}
use Rattle.std.specs.Prelude.{◌≡◌, refl, Bool, false, cond, ◌&&◌, List, [], ℕ, ◌-◌, ◌*◌, ◌^◌, ◌≤◌, ◌<◌, length, drop, Option, None, Some}
use Rattle.std.proofs.Math.Path.{sym, ap}
use Rattle.std.proofs.Common.{◌∙◌, arith, eqb-true, eq-eqb, ne_eqb, le-leb}
use Rattle.std.proofs.Math.Bool.{true, false≢true, and-eq-true_iff, and-false}
use Rattle.std.proofs.lemmas.List.{length-map}
use Rattle.std.proofs.Math.Dec.{eqb, leb}
use Rattle.std.proofs.lemmas.Bool.{lt-leb}
use Rattle.bencode.specs.Grammar.{Items}
use Rattle.filetree.specs.Token.{ends_here}
use Rattle.filetree.specs.Tree.{max_elements, Listed, files, files_below, files_in}
use Rattle.filetree.specs.TreeLaws.{empty_tree, tree_below}
use Rattle.filetree.specs.Path.{Holds, flat}
use Rattle.filetree.specs.Reading.{read_file, read_files}
use Rattle.meaning.specs.Torrent.{File}
use Rattle.halves.specs.V1Half.{V1Entry, items_fit, entries_in, files_among, same_files, on_boundary, total, has_string, bytes_of, pieces_fit}
use Rattle.hybrid.specs.Tally.{Encodes, most_bytes, tallied_of}
use Rattle.hybrid.specs.TallyLaws.{list_items, list_valid, Means, tally_sums, tally_amiss}
use Rattle.hybrid.specs.Meet.{Left, differ, left, after_files}
use Rattle.hybrid.specs.MeetLaws.{met, same_exactly}
use Rattle.hybrid.specs.Ahead.{Ahead, AllInside}
use Rattle.hybrid.specs.Compare.{OutcomeIs, Compares}
use Rattle.hybrid.specs.Half.{half_of, several_of, fits_with}
use Rattle.limits.specs.Limits.{largest_torrent}
use Rattle.bencode.specs.Parts.{Lookup}
use Rattle.tree.specs.Geometry.{piece_count}
use Rattle.tree.proofs.GeometryLaws.{ceil_enough}
use Rattle.hybrid.specs.declared.Compared.{Compared}

-- one of four tests fails
misfit : (a b c d : Bool) (r : Option ℕ) → (a ≡ true → c ≡ true → d ≡ true → b ≡ true → ⊥) → cond (a && (b && (c && d))) r None ≡ None
misfit false b c d r h = refl
misfit true false c d r h = refl
misfit true true false d r h = refl
misfit true true true false r h = refl
misfit true true true true r h = absurd (h refl refl refl refl)

module _ (v : List ℕ) (plen : ℕ) (vs : Items) (gs : List File) where
  abbrev es : List V1Entry
  es = entries_in vs

  -- something is malformed, or between boundaries, or too long
  pub several_amiss : None ≡ tallied_of plen vs → None ≡ several_of plen vs gs
  unfolding half_of
  several_amiss e =
      sym (misfit (items_fit vs) (same_files (files_among es) gs) (on_boundary plen 0 es) (leb (total es) most_bytes) (Some (total es))
      (λ f b l s. let x = tally_amiss plen 0 0 vs (omega arith) (sym e) f b in false≢true (sym (lt-leb (total es) most_bytes (omega arith)) ∙ l)))

  module _ (g n : ℕ) (e : sums g n ≡ tallied_of plen vs) where
    means : Means plen 0 0 vs g n
    means = tally_sums plen 0 0 vs g n (omega arith) (sym e)

    -- the files are the same where all are met and there are as many
    same_as : same_files (files_among es) gs ≡ met (after_files vs gs) && eqb g (length gs)
    same_as = let c : length (files_among es) ≡ g = omega (arith, means.count) in same_exactly vs gs ∙ ap (λ (k : ℕ). met (after_files vs gs) && eqb k (length gs)) c

    not_same : same_files (files_among es) gs ≡ false → None ≡ several_of plen vs gs
    unfolding half_of
    not_same q = sym (misfit (items_fit vs) (same_files (files_among es) gs) (on_boundary plen 0 es) (leb (total es) most_bytes) (Some (total es)) (λ f b l s. false≢true (sym q ∙ s)))

    -- another count
    pub several_count : (g ≡ length gs → ⊥) → None ≡ several_of plen vs gs
    several_count h = not_same (same_as ∙ ap (λ (b : Bool). met (after_files vs gs) && b) (ne_eqb g (length gs) h) ∙ and-false (met (after_files vs gs)))

    -- a file differs
    pub several_differ : after_files vs gs ≡ differ → None ≡ several_of plen vs gs
    several_differ h = not_same (same_as ∙ ap (λ (l : Left). met l && eqb g (length gs)) h)

    -- all are the same
    pub several_same : g ≡ length gs → (us : Items) → after_files vs gs ≡ left us → Some n ≡ several_of plen vs gs
    unfolding half_of
    several_same h us q =
        let s : same_files (files_among es) gs ≡ true = same_as ∙ ap (λ (l : Left). met l && eqb g (length gs)) q ∙ eq-eqb g (length gs) h in
        let m : n ≡ total es = omega (arith, means.bytes) in
        let l : leb (total es) most_bytes ≡ true = le-leb (total es) most_bytes (omega (arith, means.few)) in
        sym (rw (means.fit, s, means.boundary, l) (ap Some (sym m)))

    pub list_ahead : Encodes v vs → Ahead v 1 vs
    list_ahead c = record { items = list_items v vs c; valid = list_valid v vs c; fit = means.fit }

-- ---- the walk over the whole tree

whole_tree : (t : List ℕ) (fs : List Listed) (k : ℕ) → files_in t ≡ files fs k → files_below max_elements t 1 [] ≡ files fs k
whole_tree t fs k e = by_end (ends_here (drop 1 t)) refl
  where
    by_end : (b : Bool) → ends_here (drop 1 t) ≡ b → files_below max_elements t 1 [] ≡ files fs k
    by_end true q = let z = sym (empty_tree t q) ∙ e in let y : ◌≡◌ {A = ℕ} 0 1 = cc in absurd (omega arith)
    by_end false q = sym (tree_below t q) ∙ e

-- the path to the tree has no elements
no_path : (path : List ℕ) → Holds path (max_elements - max_elements) []
unfolding flat
no_path path = refl

no_elements_lem : (n : ℕ) → AllInside n []
unfolding AllInside
no_elements_lem n = tt

module _ (t v : List ℕ) (path₀ path : List ℕ) (fs : List Listed) (k : ℕ) (e : files_in t ≡ files fs k) (vs : Items) (a : Ahead v 1 vs) where
  outcome : (r : Option Compared) → Compares t v 1 max_elements 1 path₀ path r → OutcomeIs v k (after_files vs (read_files t fs)) r
  outcome r x = x.compares [] (no_path path₀) (no_elements_lem (length t)) fs k (whole_tree t fs k e) vs a

  pub walk_differs : Compares t v 1 max_elements 1 path₀ path None → after_files vs (read_files t fs) ≡ differ
  walk_differs x = by_left (after_files vs (read_files t fs)) (outcome None x)
    where
      by_left : (l : Left) → OutcomeIs v k l None → l ≡ differ
      by_left differ q = refl
      by_left (left us) q = let y = q.1 in let z : ◌≡◌ {A = ℕ} 0 1 = cc in absurd (omega arith)

  pub walk_same : (j d : ℕ) → Compares t v 1 max_elements 1 path₀ path (past j d) → (us : Items) × (after_files vs (read_files t fs) ≡ left us)
  walk_same j d x = by_left (after_files vs (read_files t fs)) (outcome (past j d) x)
    where
      by_left : (l : Left) → OutcomeIs v k l (past j d) → (us : Items) × (l ≡ left us)
      by_left differ q = let z : ◌≡◌ {A = ℕ} 0 1 = cc in absurd (omega arith)
      by_left (left us) q = (us, refl)

-- as many files are read as stand there
pub read_count : (t : List ℕ) (fs : List Listed) → length (read_files t fs) ≡ length fs
read_count t fs = length-map fs (read_file t)

-- ---- with `pieces`

-- a torrent has no hashes for more bytes than are counted
pub pieces_few : (plen n : ℕ) → 0 < plen → plen ≤ 2 ^ 24 → 20 * piece_count n plen ≤ largest_torrent → n ≤ most_bytes
unfolding piece_count
pieces_few plen n l h g =
    let k : piece_count n plen ≤ 52428 = omega arith in
    let m = ceil_enough n plen 52428 l k in
    omega arith

few_enough : (plen n : ℕ) (x : Lookup) → 0 < plen → plen ≤ 2 ^ 24 → length (bytes_of x) ≤ largest_torrent → pieces_fit plen n x ≡ true → n ≤ most_bytes
few_enough plen n x l h g e =
    let p = (and-eq-true_iff (has_string x) (eqb (length (bytes_of x)) (20 * piece_count n plen))).0 e in
    let q = eqb-true (length (bytes_of x)) (20 * piece_count n plen) p.1 in
    pieces_few plen n l h (omega arith)

-- so the halves fit exactly if the half that was read fits `pieces`
pub half_decides : (plen : ℕ) (ok : Bool) (es : List V1Entry) (gs : List File) (x : Lookup) → 0 < plen → plen ≤ 2 ^ 24 → length (bytes_of x) ≤ largest_torrent
    → fits_with plen x (half_of plen ok es gs) ≡ ok && (same_files (files_among es) gs && (on_boundary plen 0 es && pieces_fit plen (total es) x))
unfolding half_of
half_decides plen ok es gs x l h g = by_tests ok (same_files (files_among es) gs) (on_boundary plen 0 es) (leb (total es) most_bytes) refl
  where
    too_many : (t : Bool) → pieces_fit plen (total es) x ≡ t → leb (total es) most_bytes ≡ false → false ≡ t
    too_many false p q = refl
    too_many true p q = absurd (false≢true (sym q ∙ le-leb (total es) most_bytes (few_enough plen (total es) x l h g p)))

    by_tests : (a b c d : Bool) → leb (total es) most_bytes ≡ d
        → fits_with plen x (cond (a && (b && (c && d))) (Some (total es)) None) ≡ a && (b && (c && pieces_fit plen (total es) x))
    by_tests false b c d q = refl
    by_tests true false c d q = refl
    by_tests true true false d q = refl
    by_tests true true true true q = refl
    by_tests true true true false q = too_many (pieces_fit plen (total es) x) refl q
