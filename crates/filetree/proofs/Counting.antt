-- One file counted, as the code does it.
-- Assumes nothing.
use Rattle.std.specs.Prelude.{◌≡◌, refl, cond, List, ℕ, ◌+◌, set, eqb}
use Rattle.std.proofs.Common.{eq-eqb, ne_eqb}
use Rattle.filetree.specs.Count.{tally_with}
use Rattle.filetree.specs.declared.count.Tally.{Tally}

module _ (n : ℕ) where
  pub kept_empty : n ≡ 0 → (full r : ℕ) (roots : List ℕ) → (full ≡ cond (eqb n 0) full (full + 1)) × (roots ≡ cond (eqb n 0) roots (set roots full r))
  kept_empty e full r roots = rw (eq-eqb n 0 e) (refl, refl)

  pub kept_full : (n ≡ 0 → ⊥) → (full r : ℕ) (roots : List ℕ) → (full + 1 ≡ cond (eqb n 0) full (full + 1)) × (set roots full r ≡ cond (eqb n 0) roots (set roots full r))
  kept_full e full r roots = rw (ne_eqb n 0 e) (refl, refl)

pub one_counted : (n : ℕ) (c : Tally) (full : ℕ) → full ≡ cond (eqb n 0) c.roots (c.roots + 1) → record { files = c.files + 1; roots = full } ≡ tally_with n c
unfolding tally_with
one_counted n c full e = rw e refl
