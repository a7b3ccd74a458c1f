-- Positions in the order of their strings, each string once: what is kept ascends, lies where the others did, and has every string.
-- Assumes nothing.
use Rattle.std.specs.Prelude.{◌≡◌, ◌⊎◌, Bool, get_or, take, List, [], ◌∷◌, ◌++◌, ℕ, zero, suc, ◌+◌, ◌≤◌, ◌<◌}
use Rattle.std.proofs.Math.Path.{refl, ap}
use Rattle.std.proofs.Common.{sym, ◌∙◌, add-one, take_at, get_or-take, arith}
use Rattle.std.proofs.Math.Logic.{inl, inr}
use Rattle.std.proofs.Math.Bool.{true, false, cond}
use Rattle.std.proofs.Math.ListN.{length}
use Rattle.octets.specs.Octets.{cut}
use Rattle.bencode.specs.Grammar.{precedes}
use Rattle.meaning.specs.Counting.{Member, Contained}
use Rattle.sorting.specs.Sorting.{Fit, Ascending, Stands, lower, sorted, thinned_from, thinned}
use Rattle.sorting.specs.PermutedLaws.{permuted_member, member_at}
use Rattle.sorting.specs.SortedByLaws.{OrderedFrom, Ordered, ordered_skip, sorted_permuted, sorted_member, sorted_ordered}
use Rattle.sorting.specs.PrecedesLaws.{precedes_either}
use Rattle.sorting.specs.SortingLaws.{lower_one_way, lower_behind, fit_within}

module _ (s : List ℕ) where
  -- ---- it ascends

  abbrev Climbs : List ℕ → ℕ → Type 0
  Climbs ps i = precedes (cut s (get_or ps i 0) 32) (cut s (get_or ps (suc i) 0) 32) ≡ true

  from_climbs : (p : ℕ) (qs : List ℕ) (i : ℕ) → i < length (thinned_from s p qs) → Climbs (p ∷ thinned_from s p qs) i
  unfolding thinned_from lower
  from_climbs p [] i h = absurd (omega arith)
  from_climbs p (q ∷ qs) i h = by_test (lower s p q) refl i h (from_climbs q qs) (from_climbs p qs)
    where
      by_test : (t : Bool) → lower s p q ≡ t → (i : ℕ) → i < length (cond t (q ∷ thinned_from s q qs) (thinned_from s p qs))
          → ((i : ℕ) → i < length (thinned_from s q qs) → Climbs (q ∷ thinned_from s q qs) i) → ((i : ℕ) → i < length (thinned_from s p qs) → Climbs (p ∷ thinned_from s p qs) i)
          → Climbs (p ∷ cond t (q ∷ thinned_from s q qs) (thinned_from s p qs)) i
      by_test true e zero h f g = e
      by_test true e (suc i) h f g = f i (omega arith)
      by_test false e i h f g = g i h

  thinned_climbs : (ps : List ℕ) (i : ℕ) → suc i < length (thinned s ps) → Climbs (thinned s ps) i
  unfolding thinned
  thinned_climbs [] i h = absurd (omega arith)
  thinned_climbs (p ∷ ps) i h = from_climbs p ps i (omega arith)

  -- ---- it lies where the others did

  from_there : (p : ℕ) (qs : List ℕ) → Contained (thinned_from s p qs) qs
  unfolding thinned_from Member
  from_there p [] z m = m
  from_there p (q ∷ qs) z m = by_test (lower s p q) m (from_there q qs z) (from_there p qs z)
    where
      by_test : (t : Bool) → Member z (cond t (q ∷ thinned_from s q qs) (thinned_from s p qs)) → (Member z (thinned_from s q qs) → Member z qs)
          → (Member z (thinned_from s p qs) → Member z qs) → (z ≡ q) ⊎ Member z qs
      by_test true (inl e) f g = inl e
      by_test true (inr k) f g = inr (f k)
      by_test false k f g = inr (g k)

  thinned_there : (ps : List ℕ) → Contained (thinned s ps) ps
  unfolding thinned Member
  thinned_there [] z m = m
  thinned_there (p ∷ ps) z (inl e) = inl e
  thinned_there (p ∷ ps) z (inr m) = inr (from_there p ps z m)

  -- ---- every string is there

  abbrev Kept : List ℕ → ℕ → Type 0
  Kept ps q = Stands s ps (length ps) (cut s q 32)

  behind : (p : ℕ) (ps : List ℕ) (q : ℕ) → Kept ps q → Kept (p ∷ ps) q
  behind p ps q k = let h = k.1 in (suc k.0, omega arith, k.2)

  same_string : (p q : ℕ) → lower s p q ≡ false → lower s q p ≡ false → cut s p 32 ≡ cut s q 32
  unfolding lower
  same_string p q e f = precedes_either (cut s p 32) (cut s q 32) e f

  from_kept : (p : ℕ) (qs : List ℕ) → OrderedFrom (lower s) p qs → (z : ℕ) → Member z qs → Kept (p ∷ thinned_from s p qs) z
  unfolding thinned_from OrderedFrom Member
  from_kept p [] o z m = absurd m
  from_kept p (q ∷ qs) o z m =
      by_test (lower s p q) refl m (from_kept q qs o.1 z) (from_kept p qs (ordered_skip (lower s) (lower_behind s) p q qs o.0 o.1) z)
    where
      by_test : (t : Bool) → lower s p q ≡ t → (z ≡ q) ⊎ Member z qs → (Member z qs → Kept (q ∷ thinned_from s q qs) z)
          → (Member z qs → Kept (p ∷ thinned_from s p qs) z) → Kept (p ∷ cond t (q ∷ thinned_from s q qs) (thinned_from s p qs)) z
      by_test true e (inl a) f g = (1, omega arith, ap (λ (x : ℕ). cut s x 32) (sym a))
      by_test true e (inr k) f g = behind p (q ∷ thinned_from s q qs) z (f k)
      by_test false e (inl a) f g = (0, omega arith, same_string p q e o.0 ∙ ap (λ (x : ℕ). cut s x 32) (sym a))
      by_test false e (inr k) f g = g k

  thinned_kept : (ps : List ℕ) → Ordered (lower s) ps → (z : ℕ) → Member z ps → Kept (thinned s ps) z
  unfolding thinned Ordered Member
  thinned_kept [] o z m = absurd m
  thinned_kept (p ∷ ps) o z (inl a) = (0, omega arith, ap (λ (x : ℕ). cut s x 32) (sym a))
  thinned_kept (p ∷ ps) o z (inr m) = from_kept p ps o z m

  -- ---- of positions that were sorted, in an array that begins with what is kept

  module _ (ps : List ℕ) (count : ℕ) (at rest : List ℕ) (size : count ≡ length (thinned s (sorted s ps))) (front : at ≡ thinned s (sorted s ps) ++ rest) where
    place : (i : ℕ) → i < count → get_or at i 0 ≡ get_or (thinned s (sorted s ps)) i 0
    place i h =
        sym (get_or-take count at i 0 h) ∙ ap (λ (l : List ℕ). get_or l i 0) (ap (λ (l : List ℕ). take count l) front ∙ take_at (thinned s (sorted s ps)) rest count (sym size))

    pub once_ascending : Ascending s at count
    once_ascending i h =
        rw (place i (omega arith), place (i + 1) h)
        (rw (add-one i) (thinned_climbs (sorted s ps) i (omega arith)))

    pub once_fits : (m : ℕ) → Fit m ps → (i : ℕ) → i < count → get_or at i 0 + 32 ≤ m
    once_fits m f i h =
        let within : Contained (thinned s (sorted s ps)) ps = λ p k. sorted_member (lower s) ps p (thinned_there (sorted s ps) p k) in
        rw (place i h) (fit_within m ps (thinned s (sorted s ps)) within f i (omega arith))

    pub once_stands : (i : ℕ) → i < length ps → Stands s at count (cut s (get_or ps i 0) 32)
    once_stands i h =
        let there = permuted_member ps (sorted s ps) (get_or ps i 0) (sorted_permuted (lower s) ps) (member_at ps i 0 h) in
        let w = thinned_kept (sorted s ps) (sorted_ordered (lower s) (lower_one_way s) (lower_behind s) ps) (get_or ps i 0) there in
        let b : w.0 < count = omega (arith, w.1) in
        (w.0, b, ap (λ (p : ℕ). cut s p 32) (place w.0 b) ∙ w.2)
