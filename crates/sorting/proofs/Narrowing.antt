-- What a search by halving has ruled out.
-- Assumes nothing.
use Rattle.std.specs.Prelude.{◌≡◌, refl, true, false, List, ℕ, ◌+◌, ◌≤◌, ◌<◌, get_or}
use Rattle.std.proofs.Common.{sym, inl, inr, arith}
use Rattle.std.proofs.Math.Decide.{dec_lt}
use Rattle.octets.specs.Octets.{cut}
use Rattle.bencode.specs.Grammar.{precedes}
use Rattle.sorting.specs.Sorting.{Ascending, SearchedFor}
use Rattle.sorting.specs.PrecedesLaws.{precedes_either, precedes_differ, precedes_trans}
use Rattle.sorting.specs.SortingLaws.{ascending_all}

-- the strings before `low` stand before the one that is looked for, and those from `high` on behind it
pub record Narrowed (s at : List ℕ) (count : ℕ) (key : List ℕ) (low high : ℕ) : Type 0 where
  pub order : low ≤ high
  pub within : high ≤ count
  pub below : (i : ℕ) → i < low → precedes (cut s (get_or at i 0) 32) key ≡ true
  pub above : (i : ℕ) → high ≤ i → i < count → precedes key (cut s (get_or at i 0) 32) ≡ true

module _ (s at : List ℕ) (count : ℕ) (key : List ℕ) where
  pub narrowed_start : Narrowed s at count key 0 count
  narrowed_start = record { order = omega arith; within = omega arith; below = λ i h. absurd (omega arith); above = λ i h g. absurd (omega arith) }

  module _ (low high : ℕ) (m : Narrowed s at count key low high) where
    -- nothing is left
    pub narrowed_none : high ≤ low → SearchedFor s at count key count
    narrowed_none h = inr (refl, λ i g e. by_side i g e (dec_lt i low))
      where
        by_side : (i : ℕ) → i < count → cut s (get_or at i 0) 32 ≡ key → Dec (i < low) → ⊥
        by_side i g e (yes l) = precedes_differ (cut s (get_or at i 0) 32) key (m.below i l) e
        by_side i g e (no l) = precedes_differ key (cut s (get_or at i 0) 32) (m.above i (omega arith) g) (sym e)

    module _ (middle : ℕ) (l : low ≤ middle) (h : middle < high) where
      pub narrowed_found : precedes (cut s (get_or at middle 0) 32) key ≡ false → precedes key (cut s (get_or at middle 0) 32) ≡ false
          → SearchedFor s at count key middle
      narrowed_found p q = let w = m.within in inl (omega arith, precedes_either (cut s (get_or at middle 0) 32) key p q)

      module _ (a : Ascending s at count) where
        pub narrowed_up : precedes (cut s (get_or at middle 0) 32) key ≡ true → Narrowed s at count key (middle + 1) high
        narrowed_up p =
            record { order = omega arith; within = m.within; below = λ i g. by_side i g (dec_lt i middle); above = m.above }
          where
            by_side : (i : ℕ) → i < middle + 1 → Dec (i < middle) → precedes (cut s (get_or at i 0) 32) key ≡ true
            by_side i g (yes k) =
                let w = m.within in
                precedes_trans (cut s (get_or at i 0) 32) (cut s (get_or at middle 0) 32) key (ascending_all s at count a i middle k (omega arith)) p
            by_side i g (no k) = let e : i ≡ middle = omega arith in rw e p

        pub narrowed_down : precedes key (cut s (get_or at middle 0) 32) ≡ true → Narrowed s at count key low middle
        narrowed_down q =
            record { order = l; within = let w = m.within in omega arith; below = m.below; above = λ i g f. by_side i g f (dec_lt middle i) }
          where
            by_side : (i : ℕ) → middle ≤ i → i < count → Dec (middle < i) → precedes key (cut s (get_or at i 0) 32) ≡ true
            by_side i g f (yes k) =
                precedes_trans key (cut s (get_or at middle 0) 32) (cut s (get_or at i 0) 32) q (ascending_all s at count a middle i k f)
            by_side i g f (no k) = let e : i ≡ middle = omega arith in rw e q
