-- Positions above a position, and positions below one.
-- Assumes nothing.
use Rattle.std.specs.Prelude.{◌≡◌, refl, ◌⊎◌, ℕ, zero, suc, ◌+◌, ◌-◌, ◌*◌, ◌/◌, ◌^◌, ◌≤◌, ◌<◌}
use Rattle.std.proofs.Common.{ap, sym, ◌∙◌, inl, inr, div-one, arith, pow_pos}
use Rattle.std.proofs.Math.Nat.{pow-succ', div-div-eq-div-mul}
use Rattle.std.proofs.Math.Decide.{ℕ_discrete}
use Rattle.tree.specs.Geometry.{node_number}
use Rattle.tree.proofs.GeometryLaws.{node_number_parent}
use Rattle.cells.specs.CellsLaws.{lt_or_ge}
use Rattle.settling.specs.Path.{ancestor}

-- no layer up is the position itself
pub ancestor_zero : (u n : ℕ) → u ≡ 0 → ancestor u n ≡ n
unfolding ancestor
ancestor_zero u n e = rw e

-- one layer up is the half
pub ancestor_up : (u n : ℕ) → (u ≡ 0 → ⊥) → ancestor u n ≡ ancestor (u - 1) (n / 2)
unfolding ancestor
ancestor_up zero n ne = absurd (ne refl)
ancestor_up (suc u) n ne = let e : suc u - 1 ≡ u = omega arith in rw e

-- an ancestor's number is not greater
pub ancestor_le : (u n : ℕ) → ancestor u n ≤ n
unfolding ancestor
ancestor_le zero n = omega arith
ancestor_le (suc u) n = omega (arith, ancestor_le u (n / 2))

-- the half's ancestor is the ancestor's half
pub ancestor_half : (u n : ℕ) → ancestor u (n / 2) ≡ ancestor u n / 2
unfolding ancestor
ancestor_half zero n = refl
ancestor_half (suc u) n = ancestor_half u (n / 2)

-- the ancestor one layer further up is the half
pub ancestor_suc : (u n : ℕ) → ancestor (suc u) n ≡ ancestor u n / 2
unfolding ancestor
ancestor_suc u n = ancestor_half u n

-- where the anchor is a position, so is the parent that the way starts with
pub ancestor_parent : (u n : ℕ) → 1 ≤ ancestor (suc u) n → 1 ≤ n / 2
unfolding ancestor
ancestor_parent u n h = omega (arith, ancestor_le u (n / 2))

-- an ancestor further up is at most half
ancestor_far : (u t n : ℕ) → 2 * ancestor (u + suc t) n ≤ ancestor u n
ancestor_far u zero n =
    let e : u + suc zero ≡ suc u = omega arith in
    let f : ancestor (u + suc zero) n ≡ ancestor u n / 2 = rw e (ancestor_suc u n) in
    omega arith
ancestor_far u (suc t) n =
    let e : u + suc (suc t) ≡ suc (u + suc t) = omega arith in
    let f : ancestor (u + suc (suc t)) n ≡ ancestor (u + suc t) n / 2 = rw e (ancestor_suc (u + suc t) n) in
    omega (arith, ancestor_far u t n)

-- two ancestors of one position are the same, or one is at most half of the other
pub ancestor_two : (u t q x y : ℕ) → ancestor u q ≡ x → ancestor t q ≡ y → (x ≡ y) ⊎ ((2 * y ≤ x) ⊎ (2 * x ≤ y))
ancestor_two u t q x y p r =
    elim (ℕ_discrete u t) [
      | yes e ↦ inl (sym p ∙ ap (λ (k : ℕ). ancestor k q) e ∙ r)
      | no ne ↦ elim (lt_or_ge u t) [
        | inl l ↦
            let e : u + suc (t - u - 1) ≡ t = omega arith in
            let f : 2 * ancestor t q ≤ ancestor u q = rw e at (ancestor_far u (t - u - 1) q) in
            inr (inl (omega arith))
        | inr g ↦
            let e : t + suc (u - t - 1) ≡ u = omega arith in
            let f : 2 * ancestor u q ≤ ancestor t q = rw e at (ancestor_far t (u - t - 1) q) in
            inr (inr (omega arith))
      ]
    ]

-- in a tree of height h, u layers above number i of layer l is number i / 2^u of layer l + u
pub ancestor_number : (h l i u : ℕ) → l + u ≤ h → ancestor u (node_number h l i) ≡ node_number h (l + u) (i / 2 ^ u)
unfolding ancestor
ancestor_number h l i zero a =
    let e : l + zero ≡ l = omega arith in
    let f : i / 2 ^ zero ≡ i = div-one i in
    rw (e, f)
ancestor_number h l i (suc u) a =
    let e : suc l + u ≡ l + suc u = omega arith in
    ap (ancestor u) (sym (node_number_parent h l i (omega arith)))
    ∙ ancestor_number h (suc l) (i / 2) u (omega arith)
    ∙ ap (λ (x : ℕ). node_number h x (i / 2 / 2 ^ u)) e
    ∙ ap (node_number h (l + suc u)) (div-div-eq-div-mul i 2 (2 ^ u) ∙ ap (λ (x : ℕ). i / x) (sym (pow-succ' 2 u)))

-- and it is a position
pub ancestor_positive : (h l i u : ℕ) → l + u ≤ h → 1 ≤ ancestor u (node_number h l i)
unfolding node_number
ancestor_positive h l i u a = omega (arith, ancestor_number h l i u a, pow_pos (h - (l + u)))

-- q is n or a position below it
pub record Under (n q : ℕ) : Type 0 where
  pub layers : ℕ
  pub is : ancestor layers q ≡ n

-- a position is the first of those below it
pub under_self : (n q : ℕ) → q ≡ n → Under n q
unfolding ancestor
under_self n q e = record { layers = zero; is = e }

-- what is below a child is below its parent
pub under_parent : {n q : ℕ} (c : ℕ) → c / 2 ≡ n → Under c q → Under n q
under_parent c e w = record { layers = suc w.layers; is = ancestor_suc w.layers _ ∙ ap (λ (k : ℕ). k / 2) w.is ∙ e }

-- what is below n has a number from n on
pub under_from : {n q : ℕ} → Under n q → n ≤ q
under_from {n} {q} w = omega (arith, ancestor_le w.layers q, w.is)

-- nothing is below two positions of which neither is above the other
pub under_apart : (x y q : ℕ) → (x ≡ y → ⊥) → x < 2 * y → y < 2 * x → Under x q → Under y q → ⊥
under_apart x y q ne a b w v =
    elim (ancestor_two w.layers v.layers q x y w.is v.is) [ inl e ↦ ne e | inr o ↦ elim o [ inl l ↦ omega arith | inr l ↦ omega arith ] ]
