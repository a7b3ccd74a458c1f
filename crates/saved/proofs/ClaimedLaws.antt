-- A list of numbers that rise, in which each number but the last stands beside another and their parent stands behind both: one pass that gives
-- each pair its parent comes to the last number exactly if all have their parents.
-- Assumes nothing.
use Rattle.std.specs.Prelude.{◌≡◌, Bool, true, false, ℕ, zero, suc, ◌+◌, ◌*◌, ◌%◌, ◌≤◌, ◌<◌}
use Rattle.std.proofs.Math.Path.{refl}
use Rattle.std.proofs.Common.{ap, sym, ◌∙◌, arith}
use Rattle.std.proofs.lemmas.Bool.{false≢true}
use Rattle.std.proofs.Math.Decide.{ℕ_discrete, dec_lt}
use Rattle.saved.specs.Saved.{claimed_by}

module _ (F : ℕ → ℕ → Bool) where
  claimed_yes : (j : ℕ) → F (claimed_by F j) j ≡ true → claimed_by F (suc j) ≡ claimed_by F j + 2
  unfolding claimed_by
  claimed_yes j e = rw e

  claimed_no : (j : ℕ) → F (claimed_by F j) j ≡ false → claimed_by F (suc j) ≡ claimed_by F j
  unfolding claimed_by
  claimed_no j e = rw e

  pub claimed_none : claimed_by F 0 ≡ 0
  unfolding claimed_by
  claimed_none = refl

  -- two at a time
  pub claimed_even : (j : ℕ) → claimed_by F j % 2 ≡ 0
  claimed_even zero = rw claimed_none
  claimed_even (suc j) = by (F (claimed_by F j) j) refl (claimed_even j)
    where
      by : (x : Bool) → F (claimed_by F j) j ≡ x → claimed_by F j % 2 ≡ 0 → claimed_by F (suc j) % 2 ≡ 0
      by true e z = omega (arith, claimed_yes j e)
      by false e z = omega (arith, claimed_no j e)

  -- each pair below the number claimed has a parent
  pub claimed_each : (j k : ℕ) → k % 2 ≡ 0 → k < claimed_by F j → (m : ℕ) × (m < j) × (F k m ≡ true)
  claimed_each zero k z l = absurd (omega (arith, claimed_none))
  claimed_each (suc j) k z l = by (F (claimed_by F j) j) refl (claimed_each j k z)
    where
      up : (m : ℕ) × (m < j) × (F k m ≡ true) → (m : ℕ) × (m < suc j) × (F k m ≡ true)
      up w = (w.0, omega (arith, w.1), w.2)

      by : (x : Bool) → F (claimed_by F j) j ≡ x → (k < claimed_by F j → (m : ℕ) × (m < j) × (F k m ≡ true)) → (m : ℕ) × (m < suc j) × (F k m ≡ true)
      by false e r = up (r (omega (arith, claimed_no j e)))
      by true e r =
          elim (dec_lt k (claimed_by F j)) [
            | yes y ↦ up (r y)
            | no n ↦
                let q : k ≡ claimed_by F j = omega (arith, claimed_yes j e, claimed_even j) in
                (j, omega arith, ap (λ (x : ℕ). F x j) q ∙ e)
          ]

  -- and where every pair has one, all but the last number are claimed
  module _ (P H : ℕ) (r : ℕ → ℕ) (rise : (k m : ℕ) → k < m → m < P → r k < r m) (odd : P % 2 ≡ 1)
      (behind : (k j : ℕ) → F k j ≡ true → (k + 1 < j) × (r k + 2 * H ≡ 2 * r j))
      (parent : (k : ℕ) → k % 2 ≡ 0 → k + 1 < P → (j : ℕ) × (j < P) × (F k j ≡ true)) where
    -- after j records: the next pair's parent is still to come
    record After (j : ℕ) : Type 0 where
      inside : claimed_by F j + 1 ≤ P
      ahead : (q : ℕ) → claimed_by F j + 1 < P → q < P → F (claimed_by F j) q ≡ true → j ≤ q

    after_none : After 0
    after_none = record { inside = omega (arith, claimed_none); ahead = λ q a b e. omega arith }

    after_next : (j : ℕ) → j < P → After j → After (suc j)
    after_next j lt A = by (F (claimed_by F j) j) refl
      where
        c : ℕ
        c = claimed_by F j

        stays : (x : Bool) → F (claimed_by F j) j ≡ false → After (suc j)
        stays x e =
            let n = claimed_no j e in
            record {
              inside = omega (arith, A.inside);
              ahead =
                  λ q a b f.
                  let g : F (claimed_by F j) q ≡ true = rw n at f in
                  let w = A.ahead q (omega arith) b g in
                  elim (ℕ_discrete q j) [
                    | yes z ↦ absurd (false≢true (sym e ∙ (rw z at g)))
                    | no z ↦ omega arith
                  ];
            }

        by : (x : Bool) → F (claimed_by F j) j ≡ x → After (suc j)
        by false e = stays false e
        by true e =
            let n = claimed_yes j e in
            let w = behind (claimed_by F j) j e in
            let ev = claimed_even j in
            record {
              inside = omega arith;
              ahead =
                  λ q a b f.
                  let g : F (claimed_by F j + 2) q ≡ true = rw n at f in
                  let v = behind (claimed_by F j + 2) q g in
                  let up = rise (claimed_by F j) (claimed_by F j + 2) (omega arith) (omega arith) in
                  elim (dec_lt j q) [
                    | yes y ↦ y
                    | no z ↦ elim (ℕ_discrete j q) [
                      | yes y ↦ let e2 : r j ≡ r q = ap r y in absurd (omega (arith, w.1, v.1))
                      | no x ↦ let down = rise q j (omega arith) lt in absurd (omega (arith, w.1, v.1))
                    ]
                  ];
            }

    after_all_lem : (j : ℕ) → j ≤ P → After j
    after_all_lem zero l = after_none
    after_all_lem (suc j) l = after_next j (omega arith) (after_all_lem j (omega arith))

    pub all_claimed : claimed_by F P + 1 ≡ P
    all_claimed =
        let A = after_all_lem P (omega arith) in
        elim (ℕ_discrete (claimed_by F P + 1) P) [
          | yes e ↦ e
          | no ne ↦
              let b : claimed_by F P + 1 < P = omega (arith, A.inside) in
              let p = parent (claimed_by F P) (claimed_even P) b in
              let w = A.ahead p.0 b p.1 p.2 in
              absurd (omega (arith, p.1))
        ]
