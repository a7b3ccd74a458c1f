-- The walk to file n, entry by entry.
-- Assumes nothing.
use Rattle.std.specs.Prelude.{◌≡◌, refl, Bool, true, false, cond, ℕ, zero, suc, ◌+◌, ◌-◌, ◌≤◌, length, List, ◌∷◌}
use Rattle.std.proofs.Common.{sym, ◌∙◌, arith, eqb-true}
use Rattle.std.proofs.Math.Path.{ap}
use Rattle.std.proofs.lemmas.Bool.{false≢true}
use Rattle.bencode.specs.Grammar.{Value, Items, no_items, item}
use Rattle.halves.specs.V1Half.{V1Entry, entry_of, entries_in, total}
use Rattle.halves.specs.Stream.{file_start}
use Rattle.hybrid.specs.Entry.{Reads, malformed, ended, entry_read}
use Rattle.hybrid.specs.Ahead.{Ahead}
use Rattle.hybrid.specs.AheadLaws.{ahead_ended, ahead_bad, ahead_inside, ahead_entry}
use Rattle.hybrid.specs.Tally.{most_bytes}
use Rattle.hybrid.specs.TallyLaws.{list_items, list_valid}
use Rattle.v1.specs.Place.{file_size, spot_of, Fitting, is_sought, left_behind, Walking}
use Rattle.v1.specs.declared.place.Spot.{Spot}

-- ---- one entry

-- it is the one sought
sought : (e : V1Entry) (es : List V1Entry) (left : ℕ) → is_sought e.padding left ≡ true → (file_start (e ∷ es) left ≡ 0) × (file_size (e ∷ es) left ≡ e.size)
unfolding file_start file_size
sought e es zero q = by e.padding q
  where
    by : (t : Bool) → is_sought t zero ≡ true → (cond t (e.size + file_start es zero) 0 ≡ 0) × (cond t (file_size es zero) e.size ≡ e.size)
    by true q = absurd (false≢true q)
    by false q = (refl, refl)
sought e es (suc left) q = absurd (other e.padding q)
  where
    other : (t : Bool) → is_sought t (suc left) ≡ true → ⊥
    other true q = false≢true q
    other false q = let z = eqb-true (suc left) 0 q in omega arith

-- it is passed over
passed : (e : V1Entry) (es : List V1Entry) (left : ℕ) → is_sought e.padding left ≡ false
    → (file_start (e ∷ es) left ≡ e.size + file_start es (left_behind e.padding left)) × (file_size (e ∷ es) left ≡ file_size es (left_behind e.padding left))
unfolding file_start file_size
passed e es zero q = by e.padding q
  where
    by : (t : Bool) → is_sought t zero ≡ false
        → (cond t (e.size + file_start es zero) 0 ≡ e.size + file_start es (left_behind t zero)) × (cond t (file_size es zero) e.size ≡ file_size es (left_behind t zero))
    by true q = (refl, refl)
    by false q = absurd (false≢true (sym q))
passed e es (suc left) q = by e.padding
  where
    by : (t : Bool) → (e.size + file_start es (cond t (suc left) left) ≡ e.size + file_start es (left_behind t (suc left))) × (file_size es (cond t (suc left) left) ≡ file_size es (left_behind t (suc left)))
    by true = (refl, refl)
    by false = let z : suc left - 1 ≡ left = omega arith in rw z (refl, refl)

-- ---- the walk

pub walk_start : (v : List ℕ) (n : ℕ) (vs : Items) → Fitting v vs → Walking v n 1 n 0 vs
walk_start v n vs f =
    record {
      us = vs;
      ahead = record { items = list_items v vs f.encoded; valid = list_valid v vs f.encoded; fit = f.fit };
      starts = omega arith;
      sizes = refl;
      bytes = omega arith;
    }

spot_same : (es : List V1Entry) (n start length : ℕ) → file_start es n ≡ start → file_size es n ≡ length → ◌≡◌ {A = Spot} (record { start = start; length = length }) (spot_of es n)
spot_same es n start length e f = rw (e, f) refl

module _ (v : List ℕ) (n i left start : ℕ) (vs : Items) (w : Walking v n i left start vs) where
  -- the end of the bytes is no end of the list
  pub walk_inside : length v ≤ i → ⊥
  walk_inside h = ahead_inside v i w.us w.ahead h

  pub walk_bad : Reads v i malformed → ⊥
  walk_bad r = ahead_bad v i w.us w.ahead r

  -- no file n: the end of all entries
  pub walk_ended : Reads v i ended → ◌≡◌ {A = Spot} (record { start = start; length = 0 }) (spot_of (entries_in vs) n)
  walk_ended r =
      let e = ahead_ended v i w.us w.ahead r in
      let z : (file_start (entries_in w.us) left ≡ 0) × (file_size (entries_in w.us) left ≡ 0) = rw e none in
      spot_same (entries_in vs) n start 0 (omega (arith, w.starts, z.0)) (w.sizes ∙ z.1)
    where
      none : (file_start (entries_in no_items) left ≡ 0) × (file_size (entries_in no_items) left ≡ 0)
      none = unfold entries_in file_start file_size in (refl, refl)

  module _ (t : Bool) (k p j : ℕ) (r : Reads v i (entry_read t k p j)) where
    next : (x : Value) × (ws : Items) × (w.us ≡ item x ws) × (t ≡ (entry_of x).padding) × (k ≡ (entry_of x).size) × Ahead v j ws
    next = let m = ahead_entry v i t k p j r w.us w.ahead in (m.0, m.1, m.2, m.3, m.4, m.6)

    entries_next : entries_in w.us ≡ entry_of next.0 ∷ entries_in next.1
    unfolding entries_in
    entries_next = ap entries_in next.2

    -- the bytes so far, with this entry's, are not too many
    pub walk_few : total (entries_in vs) ≤ most_bytes → start + k ≤ most_bytes
    walk_few h =
        let a : total (entries_in w.us) ≡ (entry_of next.0).size + total (entries_in next.1) = unfold total in ap total entries_next in
        omega (arith, w.bytes, a, next.4)

    -- file n
    pub walk_found : is_sought t left ≡ true → ◌≡◌ {A = Spot} (record { start = start; length = k }) (spot_of (entries_in vs) n)
    walk_found q =
        let z = sought (entry_of next.0) (entries_in next.1) left (ap (λ (b : Bool). is_sought b left) (sym next.3) ∙ q) in
        spot_same (entries_in vs) n start k
        (w.starts ∙ ap (λ (es : List V1Entry). start + file_start es left) entries_next ∙ ap (λ (m : ℕ). start + m) z.0 ∙ zero_behind)
        (w.sizes ∙ ap (λ (es : List V1Entry). file_size es left) entries_next ∙ z.1 ∙ sym next.4)
      where
        zero_behind : start + 0 ≡ start
        zero_behind = omega arith

    pub walk_on : is_sought t left ≡ false → (g : ℕ) → g ≡ left_behind t left → Walking v n j g (start + k) vs
    walk_on q g eg =
        let b = (entry_of next.0).padding in
        let z = passed (entry_of next.0) (entries_in next.1) left (ap (λ (b : Bool). is_sought b left) (sym next.3) ∙ q) in
        let eg' : left_behind (entry_of next.0).padding left ≡ g = ap (λ (b : Bool). left_behind b left) (sym next.3) ∙ sym eg in
        let a : total (entries_in w.us) ≡ (entry_of next.0).size + total (entries_in next.1) = unfold total in ap total entries_next in
        let s : file_start (entries_in w.us) left ≡ (entry_of next.0).size + file_start (entries_in next.1) g =
        ap (λ (es : List V1Entry). file_start es left) entries_next ∙ z.0 ∙ ap (λ (m : ℕ). (entry_of next.0).size + file_start (entries_in next.1) m) eg' in
        record {
          us = next.1;
          ahead = next.5;
          starts = omega (arith, w.starts, s, next.4);
          sizes = w.sizes ∙ ap (λ (es : List V1Entry). file_size es left) entries_next ∙ z.1 ∙ ap (λ (m : ℕ). file_size (entries_in next.1) m) eg';
          bytes = omega (arith, w.bytes, a, next.4);
        }
