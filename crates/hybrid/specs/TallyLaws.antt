-- The tally as a walk comes to it; and what it says of the entries: each well formed, each file on a boundary, how many files, how many bytes.
-- Assumes nothing.
use Rattle.hybrid.specs.declared.EntryRead.{EntryRead}
use Rattle.hybrid.specs.declared.Malformed.{Malformed}
use Rattle.hybrid.specs.Tally.{sums}
use Rattle.std.specs.Prelude.{◌≡◌, refl, Bool, true, false, cond, ◌&&◌, ◌||◌, ℕ, ◌+◌, ◌-◌, ◌%◌, ◌≤◌, ◌<◌, length, drop, eqb, leb, List, [], ◌∷◌, ◌++◌, None, Option, Result, unwrap_or}
use Rattle.std.proofs.Math.Path.{sym, ap}
use Rattle.std.proofs.Common.{◌∙◌, arith, leb-true, leb-false, le-leb, append-nil}
use Rattle.std.proofs.Math.Bool.{and-eq-true_iff}
use Rattle.std.proofs.lemmas.Bool.{lt-leb}
use Rattle.meaning.proofs.TestsLaws.{three_true}
use Rattle.limits.specs.Limits.{max_levels}
use Rattle.bencode.specs.Grammar.{Value, Items, no_items, item, encode, encode_items, Valid, ItemsValid}
use Rattle.bencode.specs.DepthLaws.{more_levels}
use Rattle.bencode.specs.PartsLaws.{after_part}
use Rattle.filetree.specs.Token.{ends_here}
use Rattle.halves.specs.V1Half.{V1Entry, entry_fits, entry_of, items_fit, entries_in, total, files_among, on_boundary}
use Rattle.hybrid.specs.declared.Tallied.{Tallied}
use Rattle.hybrid.specs.EntryLaws.{same_entry}
use Rattle.hybrid.specs.Entry.{StandsAt, Reads, malformed, ended, entry_read}
use Rattle.hybrid.specs.EntryLaws.{ItemsAt, items_ended, items_some, items_inside}
use Rattle.hybrid.specs.Tally.{Encodes, most_bytes, tallied_from, tallied_of}

-- ---- how far the walk has come

-- the items us are next, at i, and what is said of them with what was counted is what is said of all
pub record Tallying (v : List ℕ) (plen : ℕ) (i files sum : ℕ) (vs : Items) : Type 0 where
  pub us : Items
  pub items : ItemsAt v i us []
  pub valid : ItemsValid us (max_levels - 1)
  pub same : tallied_of plen vs ≡ tallied_from plen files sum us

-- the items of the list that v is
pub list_items : (v : List ℕ) (vs : Items) → Encodes v vs → ItemsAt v 1 vs []
unfolding encode
list_items v vs e = ap (drop 1) e.bytes ∙ sym (append-nil (encode_items vs))

pub list_valid : (v : List ℕ) (vs : Items) → Encodes v vs → ItemsValid vs (max_levels - 1)
unfolding Valid
list_valid v vs e = e.valid

pub tally_start : (v : List ℕ) (plen : ℕ) (vs : Items) → Encodes v vs → Tallying v plen 1 0 0 vs
tally_start v plen vs e =
    record {
      us = vs;
      items = list_items v vs e;
      valid = list_valid v vs e;
      same = refl;
    }

module _ (v : List ℕ) (plen i files sum : ℕ) (vs : Items) (t : Tallying v plen i files sum vs) where
  -- the end of the bytes is no end of the list
  pub tally_inside : length v ≤ i → ⊥
  tally_inside h = items_inside v i t.us [] t.items h

  -- at the list's end
  pub tally_ended : ends_here (drop i v) ≡ true → sums files sum ≡ tallied_of plen vs
  unfolding tallied_from
  tally_ended h = sym (t.same ∙ ap (tallied_from plen files sum) (items_ended v i t.us [] t.items h))

  module _ (h : ends_here (drop i v) ≡ false) where
    some : (x : Value) × (ws : Items) × (t.us ≡ item x ws) × (drop i v ≡ encode x ++ (encode_items ws ++ []))
    some = items_some v i t.us [] t.items h

    both_valid : Valid some.0 (max_levels - 1) × ItemsValid some.1 (max_levels - 1)
    both_valid = unfold Valid in rw some.2 at t.valid

    stands : StandsAt v i some.0
    stands = record { behind = encode_items some.1 ++ []; bytes = some.3; valid = more_levels some.0 (max_levels - 1) max_levels (omega arith) both_valid.0 }

    -- one entry
    step : tallied_of plen vs
        ≡ cond (entry_fits some.0 && (((entry_of some.0).padding || eqb (sum % plen) 0) && leb (entry_of some.0).size (most_bytes - sum)))
        (tallied_from plen (cond (entry_of some.0).padding files (files + 1)) (sum + (entry_of some.0).size) some.1) None
    unfolding tallied_from
    step = t.same ∙ ap (tallied_from plen files sum) some.2

    -- that is malformed
    pub tally_bad : Reads v i malformed → None ≡ tallied_of plen vs
    tally_bad r = by_fit (entry_fits some.0) refl
      where
        by_fit : (f : Bool) → entry_fits some.0 ≡ f → None ≡ tallied_of plen vs
        by_fit true e = let p = (r.item some.0 stands).fits e in let z : ◌≡◌ {A = ℕ} 0 1 = (let q = p.1 in cc) in absurd (omega arith)
        by_fit false e = sym (step ∙ rw e refl)

    module _ (padding : Bool) (n p k : ℕ) (r : Reads v i (entry_read padding n p k)) where
      fits : (entry_fits some.0 ≡ true) × (padding ≡ (entry_of some.0).padding) × (n ≡ (entry_of some.0).size) × (k ≡ i + length (encode some.0))
      fits = by_fit (entry_fits some.0) refl
        where
          by_fit : (f : Bool) → entry_fits some.0 ≡ f
              → (entry_fits some.0 ≡ true) × (padding ≡ (entry_of some.0).padding) × (n ≡ (entry_of some.0).size) × (k ≡ i + length (encode some.0))
          by_fit true e = let q = (r.item some.0 stands).fits e in let o = same_entry padding (entry_of some.0).padding n (entry_of some.0).size p q.0 k (i + length (encode some.0)) q.1 in (e, o.0, o.1, o.3)
          by_fit false e = let q = (r.item some.0 stands).amiss e in let z : ◌≡◌ {A = ℕ} 0 1 = cc in absurd (omega arith)

      -- that is a file, and not on a boundary
      pub tally_between : (padding || eqb (sum % plen) 0) ≡ false → None ≡ tallied_of plen vs
      tally_between e = sym (step ∙ rw (fits.0, sym fits.1, e) refl)

      -- with which there are too many bytes
      pub tally_many : (padding || eqb (sum % plen) 0) ≡ true → most_bytes - sum < n → None ≡ tallied_of plen vs
      tally_many e l = sym (step ∙ rw (fits.0, sym fits.1, e, sym fits.2, lt-leb n (most_bytes - sum) l) refl)

      -- that is well
      pub tally_more : (padding || eqb (sum % plen) 0) ≡ true → n ≤ most_bytes - sum → (g : ℕ) → g ≡ cond padding files (files + 1) → Tallying v plen k g (sum + n) vs
      tally_more e l g eg =
          record {
            us = some.1;
            items = rw fits.3 (after_part v i (encode some.0) (encode_items some.1 ++ []) some.3);
            valid = both_valid.1;
            same = step ∙ rw (fits.0, sym fits.1, e, sym fits.2, le-leb n (most_bytes - sum) l, eg) refl;
          }

-- ---- by what was read

module _ (v : List ℕ) (plen i files sum : ℕ) (vs : Items) (t : Tallying v plen i files sum vs) where
  pub read_ended : Reads v i ended → sums files sum ≡ tallied_of plen vs
  read_ended r = by_end (ends_here (drop i v)) refl
    where
      by_fit : (h : ends_here (drop i v) ≡ false) (f : Bool) → entry_fits (some v plen i files sum vs t h).0 ≡ f → ⊥
      by_fit h true e = let q = ((r.item (some v plen i files sum vs t h).0 (stands v plen i files sum vs t h)).fits e).1 in let z : ◌≡◌ {A = ℕ} 0 1 = cc in omega arith
      by_fit h false e = let q = (r.item (some v plen i files sum vs t h).0 (stands v plen i files sum vs t h)).amiss e in let z : ◌≡◌ {A = ℕ} 0 1 = cc in omega arith

      by_end : (b : Bool) → ends_here (drop i v) ≡ b → sums files sum ≡ tallied_of plen vs
      by_end true h = tally_ended v plen i files sum vs t h
      by_end false h = absurd (by_fit h (entry_fits (some v plen i files sum vs t h).0) refl)

-- what is no end
not_ended : (v : List ℕ) (i : ℕ) (r : Result (Option EntryRead) Malformed) → Reads v i r → (r ≡ ended → ⊥) → ends_here (drop i v) ≡ false
not_ended v i r s n = by_end (ends_here (drop i v)) refl
  where
    by_end : (b : Bool) → ends_here (drop i v) ≡ b → b ≡ false
    by_end true h = absurd (n (s.closed h))
    by_end false h = refl

pub bad_no_end : (v : List ℕ) (i : ℕ) → Reads v i malformed → ends_here (drop i v) ≡ false
bad_no_end v i r = not_ended v i malformed r (λ e. let z : ◌≡◌ {A = ℕ} 0 1 = cc in omega arith)

pub entry_no_end : (v : List ℕ) (i : ℕ) (padding : Bool) (n p k : ℕ) → Reads v i (entry_read padding n p k) → ends_here (drop i v) ≡ false
entry_no_end v i padding n p k r = not_ended v i (entry_read padding n p k) r (λ e. let z : ◌≡◌ {A = ℕ} 0 1 = cc in omega arith)

-- one more is counted at most
pub counted_few : (t : Bool) (files g i k : ℕ) → g ≡ cond t files (files + 1) → files ≤ i → i < k → g ≤ k
counted_few true files g i k e h l = omega arith
counted_few false files g i k e h l = omega arith

-- ---- what a tally says of the entries

pub record Means (plen files sum : ℕ) (vs : Items) (g n : ℕ) : Type 0 where
  pub fit : items_fit vs ≡ true
  pub boundary : on_boundary plen sum (entries_in vs) ≡ true
  pub count : g ≡ files + length (files_among (entries_in vs))
  pub bytes : n ≡ sum + total (entries_in vs)
  pub few : n ≤ most_bytes

counted_among : (t : Bool) (e : V1Entry) (es : List V1Entry) (files : ℕ) → cond t files (files + 1) + length es ≡ files + length (cond t es (e ∷ es))
counted_among true e es files = refl
counted_among false e es files = omega arith

-- sums: each entry is well formed, each file on a boundary
pub tally_sums : (plen files sum : ℕ) (vs : Items) (g n : ℕ) → sum ≤ most_bytes → tallied_from plen files sum vs ≡ sums g n → Means plen files sum vs g n
unfolding tallied_from items_fit on_boundary files_among entries_in total
tally_sums plen files sum no_items g n l e =
    let the : Option Tallied → Tallied = λ w. unwrap_or w (record { files = files; total = sum }) in
    let a : files ≡ g = ap (λ w. (the w).files) e in
    let b : sum ≡ n = ap (λ w. (the w).total) e in
    record { fit = refl; boundary = refl; count = omega arith; bytes = omega arith; few = omega arith }
tally_sums plen files sum (item x vs) g n l e = by_test (entry_fits x && (near && few)) refl e (λ h f. tally_sums plen (cond (entry_of x).padding files (files + 1)) (sum + (entry_of x).size) vs g n h f)
  where
    near : Bool
    near = (entry_of x).padding || eqb (sum % plen) 0

    few : Bool
    few = leb (entry_of x).size (most_bytes - sum)

    by_test : (b : Bool) → entry_fits x && (near && few) ≡ b
        → cond b (tallied_from plen (cond (entry_of x).padding files (files + 1)) (sum + (entry_of x).size) vs) None ≡ sums g n
        → (sum + (entry_of x).size ≤ most_bytes → tallied_from plen (cond (entry_of x).padding files (files + 1)) (sum + (entry_of x).size) vs ≡ sums g n → Means plen (cond (entry_of x).padding files (files + 1)) (sum + (entry_of x).size) vs g n)
        → Means plen files sum (item x vs) g n
    by_test false q f i = let z : ◌≡◌ {A = ℕ} 0 1 = cc in absurd (omega arith)
    by_test true q f i =
        let t = three_true (entry_fits x) near few q in
        let y = leb-true (entry_of x).size (most_bytes - sum) t.2 in
        let m = i (omega arith) f in
        let counts = counted_among (entry_of x).padding (entry_of x) (files_among (entries_in vs)) files in
        record {
          fit = rw (t.0, m.fit) refl;
          boundary = rw (t.1, m.boundary) refl;
          count = m.count ∙ counts;
          bytes = omega (arith, m.bytes);
          few = m.few;
        }

-- amiss, though all that is right: too many bytes for any `pieces`
pub tally_amiss : (plen files sum : ℕ) (vs : Items) → sum ≤ most_bytes → tallied_from plen files sum vs ≡ None → items_fit vs ≡ true → on_boundary plen sum (entries_in vs) ≡ true
    → most_bytes < sum + total (entries_in vs)
unfolding tallied_from items_fit on_boundary entries_in total
tally_amiss plen files sum no_items l e f b = let z : ◌≡◌ {A = ℕ} 0 1 = cc in absurd (omega arith)
tally_amiss plen files sum (item x vs) l e f b =
    let p = (and-eq-true_iff (entry_fits x) (items_fit vs)).0 f in
    let q = (and-eq-true_iff ((entry_of x).padding || eqb (sum % plen) 0) (on_boundary plen (sum + (entry_of x).size) (entries_in vs))).0 b in
    by_few (leb (entry_of x).size (most_bytes - sum)) refl (rw (p.0, q.0) at e) (λ h g. tally_amiss plen (cond (entry_of x).padding files (files + 1)) (sum + (entry_of x).size) vs h g p.1 q.1)
  where
    by_few : (t : Bool) → leb (entry_of x).size (most_bytes - sum) ≡ t
        → cond t (tallied_from plen (cond (entry_of x).padding files (files + 1)) (sum + (entry_of x).size) vs) None ≡ None
        → (sum + (entry_of x).size ≤ most_bytes → tallied_from plen (cond (entry_of x).padding files (files + 1)) (sum + (entry_of x).size) vs ≡ None → most_bytes < sum + (entry_of x).size + total (entries_in vs))
        → most_bytes < sum + ((entry_of x).size + total (entries_in vs))
    by_few true h g i = let y = leb-true (entry_of x).size (most_bytes - sum) h in let z = i (omega arith) g in omega arith
    by_few false h g i = let y = leb-false (entry_of x).size (most_bytes - sum) h in omega arith
