-- Of sorted positions the first of each string kept in place, as the loop does it; and the array that was lent for it, back.
-- Assumes nothing.
use Rattle.std.specs.Prelude.{◌≡◌, refl, Bool, true, false, cond, List, [], ◌∷◌, ◌++◌, ℕ, ◌+◌, ◌-◌, ◌≤◌, ◌<◌, min, length, get_or, set, take, drop, ltb}
use Rattle.std.proofs.Common.{sym, ap, ap₂, subst, ◌∙◌, append_assoc, append-nil, arith, add-one, length-take, length-set, drop_of_length-le, take-append-drop, drop-cons, get_or-take, get_or-drop, drop-drop, take_at, take-suc-set, drop-set-lt, drop_at, get_or-set_same, get_or-set_other, length-take-le}
use Rattle.std.proofs.Math.Decide.{ℕ_discrete}
use Rattle.octets.specs.Octets.{cut}
use Rattle.bencode.specs.Grammar.{precedes}
use Rattle.sorting.specs.Sorting.{Fit, lower, sorted, thinned_from, thinned}
use Rattle.sorting.specs.SortedByLaws.{sorted_member, sorted_length}
use Rattle.sorting.specs.SortingLaws.{fit_within}

-- ---- one position

module _ (s at : List ℕ) (kept a b : ℕ) where
  pub kept_one : precedes (cut s a 32) (cut s b 32) ≡ true → (kept + 1 ≡ cond (lower s a b) (kept + 1) kept) × (set at kept b ≡ cond (lower s a b) (set at kept b) at)
  unfolding lower
  kept_one e = rw e (refl, refl)

  pub kept_none : precedes (cut s a 32) (cut s b 32) ≡ false → (kept ≡ cond (lower s a b) (kept + 1) kept) × (at ≡ cond (lower s a b) (set at kept b) at)
  unfolding lower
  kept_none e = rw e (refl, refl)

fit_set : (m : ℕ) (at : List ℕ) (k x : ℕ) → Fit m at → x + 32 ≤ m → Fit m (set at k x)
fit_set m at k x f h i l = by_place (ℕ_discrete i k)
  where
    inside : i < length at
    inside = rw (length-set at k x) at l

    by_place : Dec (i ≡ k) → get_or (set at k x) i 0 + 32 ≤ m
    by_place (yes e) = let g : get_or (set at k x) i 0 ≡ x = ap (λ (j : ℕ). get_or (set at k x) j 0) e ∙ get_or-set_same at k x 0 (rw e at inside) in rw g h
    by_place (no n) = rw (get_or-set_other at k i x 0 n) (f i inside)

-- ---- the loop

-- ps were lent, `at` is how they stand: `kept` are kept of the first i, the rest is as it was
pub record ThinnedAt (m : ℕ) (s ps at : List ℕ) (kept i : ℕ) : Type 0 where
  pub some : 0 < kept
  pub order : kept ≤ i
  pub within : i ≤ length ps
  pub size : length at ≡ length ps
  pub whole : thinned s ps ≡ take kept at ++ thinned_from s (get_or at (kept - 1) 0) (drop i ps)
  pub rest : drop kept at ≡ drop kept ps
  pub fit : Fit m at

module _ (m : ℕ) (s : List ℕ) where
  pub thinned_none : (ps : List ℕ) → length ps ≡ 0 → (0 ≡ length (thinned s ps)) × (ps ≡ thinned s ps ++ drop 0 ps)
  unfolding thinned
  thinned_none [] e = (refl, refl)
  thinned_none (p ∷ ps) e = absurd (omega arith)

  pub thinned_start : (ps : List ℕ) → (length ps ≡ 0 → ⊥) → Fit m ps → ThinnedAt m s ps ps 1 1
  unfolding thinned
  thinned_start [] h f = absurd (h refl)
  thinned_start (p ∷ ps) h f = record { some = omega arith; order = omega arith; within = omega arith; size = refl; whole = refl; rest = refl; fit = f }

  module _ (ps at : List ℕ) (kept i : ℕ) (w : ThinnedAt m s ps at kept i) where
    -- nothing is left
    pub thinned_end : length at ≤ i → (kept ≡ length (thinned s ps)) × (at ≡ thinned s ps ++ drop kept ps)
    thinned_end h =
        let a = w.size in
        let b = w.within in
        let c = w.order in
        let none : drop i ps ≡ [] = drop_of_length-le ps {i = i} (omega arith) in
        let front : thinned s ps ≡ take kept at = w.whole ∙ ap (λ (l : List ℕ). take kept at ++ thinned_from s (get_or at (kept - 1) 0) l) none ∙ ap (λ (l : List ℕ). take kept at ++ l) (from_none (get_or at (kept - 1) 0)) ∙ append-nil (take kept at) in
        (sym (ap length front ∙ length-take-le kept at (omega arith)), sym (ap₂ (λ (x y : List ℕ). x ++ y) front (sym w.rest) ∙ take-append-drop kept at))
      where
        from_none : (p : ℕ) → thinned_from s p [] ≡ []
        from_none p = unfold thinned_from in refl

    module _ (h : i < length at) where
      -- position i is as it was
      as_lent : get_or at i 0 ≡ get_or ps i 0
      as_lent =
          let o = w.order in
          let e : kept + (i - kept) ≡ i = omega arith in
          rw e at (sym (get_or-drop kept at (i - kept) 0) ∙ ap (λ (l : List ℕ). get_or l (i - kept) 0) w.rest ∙ get_or-drop kept ps (i - kept) 0)

      ahead : drop i ps ≡ get_or at i 0 ∷ drop (i + 1) ps
      ahead = let z = w.size in drop-cons ps i 0 (omega arith) ∙ rw (as_lent, add-one i) refl

      from_step : (p q : ℕ) (qs : List ℕ) → thinned_from s p (q ∷ qs) ≡ cond (lower s p q) (q ∷ thinned_from s q qs) (thinned_from s p qs)
      unfolding thinned_from
      from_step p q qs = refl

      step : (t : Bool) → lower s (get_or at (kept - 1) 0) (get_or at i 0) ≡ t
          → thinned s ps ≡ take kept at ++ cond t (get_or at i 0 ∷ thinned_from s (get_or at i 0) (drop (i + 1) ps)) (thinned_from s (get_or at (kept - 1) 0) (drop (i + 1) ps))
      step t e = w.whole ∙ ap (λ (l : List ℕ). take kept at ++ l) (ap (thinned_from s (get_or at (kept - 1) 0)) ahead ∙ from_step (get_or at (kept - 1) 0) (get_or at i 0) (drop (i + 1) ps) ∙ rw e refl)

      thinned_kept : lower s (get_or at (kept - 1) 0) (get_or at i 0) ≡ true → ThinnedAt m s ps (set at kept (get_or at i 0)) (kept + 1) (i + 1)
      thinned_kept e =
          let o = w.order in
          let p = w.some in
          let z = w.size in
          let x = get_or at i 0 in
          let back : kept + 1 - 1 ≡ kept = omega arith in
          let last : get_or (set at kept x) (kept + 1 - 1) 0 ≡ x = rw back (get_or-set_same at kept x 0 (omega arith)) in
          let front : take (kept + 1) (set at kept x) ≡ take kept at ++ (x ∷ []) = rw (add-one kept) (take-suc-set at kept x (omega arith)) in
          record {
            some = omega arith;
            order = omega arith;
            within = omega arith;
            size = length-set at kept x ∙ z;
            whole = step true e ∙ sym (append_assoc (take kept at) (x ∷ []) (thinned_from s x (drop (i + 1) ps))) ∙ rw (front, last) refl;
            rest = drop-set-lt (kept + 1) at kept x (omega arith) ∙ sym (drop-drop 1 kept at) ∙ ap (λ (l : List ℕ). drop 1 l) w.rest ∙ drop-drop 1 kept ps;
            fit = fit_set m at kept x w.fit (w.fit i h);
          }

      thinned_passed : lower s (get_or at (kept - 1) 0) (get_or at i 0) ≡ false → ThinnedAt m s ps at kept (i + 1)
      thinned_passed e =
          let o = w.order in
          let z = w.size in
          record { some = w.some; order = omega arith; within = omega arith; size = z; whole = step false e; rest = w.rest; fit = w.fit }

      pub thinned_on : (k : ℕ) (a : List ℕ) → (k ≡ cond (lower s (get_or at (kept - 1) 0) (get_or at i 0)) (kept + 1) kept) × (a ≡ cond (lower s (get_or at (kept - 1) 0) (get_or at i 0)) (set at kept (get_or at i 0)) at)
          → ThinnedAt m s ps a k (i + 1)
      thinned_on k a e = by_test (lower s (get_or at (kept - 1) 0) (get_or at i 0)) refl e.0 e.1
        where
          by_test : (t : Bool) → lower s (get_or at (kept - 1) 0) (get_or at i 0) ≡ t → k ≡ cond t (kept + 1) kept → a ≡ cond t (set at kept (get_or at i 0)) at → ThinnedAt m s ps a k (i + 1)
          by_test true q f g = rw (f, g) (thinned_kept q)
          by_test false q f g = rw (f, g) (thinned_passed q)

-- ---- the first `count` positions, lent as z = count - 0 of them, and back sorted

pub first_fit : (m : ℕ) (at : List ℕ) (z count : ℕ) → z ≡ count → ((i : ℕ) → i < count → get_or at i 0 + 32 ≤ m) → Fit m (take z at)
first_fit m at z count e f i h =
    let l : i < min z (length at) = rw (length-take z at) at h in
    rw (get_or-take z at i 0 (omega arith)) (f i (omega arith))

module _ (s at : List ℕ) (z count : ℕ) (e : z ≡ count) (l : count ≤ length at) (a : List ℕ) (p : a ≡ sorted s (take z at)) where
  sorted_size : length a ≡ z
  sorted_size = ap length p ∙ sorted_length (lower s) (take z at) ∙ length-take-le z at (omega arith)

  sorted_back : take z (a ++ drop z at) ≡ a
  sorted_back = take_at a (drop z at) z sorted_size

  pub sorted_fit : (m : ℕ) → ((i : ℕ) → i < count → get_or at i 0 + 32 ≤ m) → Fit m (take z (a ++ drop z at))
  sorted_fit m f =
      subst (λ (t : List ℕ). Fit m t) (sym (sorted_back ∙ p))
      (fit_within m (take z at) (sorted s (take z at)) (sorted_member (lower s) (take z at)) (first_fit m at z count e f))

  -- and thinned
  pub thinned_back : (r : ℕ) (b : List ℕ) → (r ≡ length (thinned s (take z (a ++ drop z at)))) × (b ≡ thinned s (take z (a ++ drop z at)) ++ drop r (take z (a ++ drop z at)))
      → (r ≡ length (thinned s (sorted s (take count at)))) × (b ++ drop z (a ++ drop z at) ≡ (thinned s (sorted s (take count at)) ++ drop r (sorted s (take count at))) ++ drop count at)
  thinned_back r b q =
      let is : take z (a ++ drop z at) ≡ sorted s (take count at) = sorted_back ∙ p ∙ ap (λ (k : ℕ). sorted s (take k at)) e in
      let tail : drop z (a ++ drop z at) ≡ drop count at = drop_at a (drop z at) z sorted_size ∙ ap (λ (k : ℕ). drop k at) e in
      (q.0 ∙ ap (λ (t : List ℕ). length (thinned s t)) is, ap₂ (λ (x y : List ℕ). x ++ y) (q.1 ∙ ap (λ (t : List ℕ). thinned s t ++ drop r t) is) tail)

-- so is the room, if there are two or more
pub room_back : (s at room : List ℕ) (z count : ℕ) → z ≡ count → (b : List ℕ) → b ≡ cond (ltb count 2) (take z room) (sorted s (take z at))
    → b ++ drop z room ≡ cond (ltb count 2) room (sorted s (take count at) ++ drop count room)
room_back s at room z count e b q = rw (q, e) (by_count (ltb count 2))
  where
    by_count : (t : Bool) → cond t (take count room) (sorted s (take count at)) ++ drop count room ≡ cond t room (sorted s (take count at) ++ drop count room)
    by_count true = take-append-drop count room
    by_count false = refl
