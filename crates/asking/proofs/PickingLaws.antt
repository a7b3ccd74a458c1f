-- The choice among the pieces, exactly.
-- Assumes nothing.
use Rattle.std.specs.Prelude.{◌≡◌, Bool, ◌&&◌, List, ◌⊎◌, ltb, ℕ, zero, suc, ◌+◌, ◌≤◌, ◌<◌}
use Rattle.std.proofs.Math.Path.{refl, sym}
use Rattle.std.proofs.Common.{ap, ◌∙◌, inl, inr, lt-ltb, le-ltb, arith}
use Rattle.std.proofs.Math.Bool.{true, false, cond, not}
use Rattle.numbers.specs.Tests.{either, not_both}
use Rattle.cells.specs.CellsLaws.{lt_or_ge}
use Rattle.marks.specs.Marks.{piece_marked}
use Rattle.asking.specs.declared.pick.Choice.{Choice}
use Rattle.asking.specs.Picking.{count_of, fetchable, before, no_piece, this_piece, chosen, best_of}

chosen_this : (s counts : List ℕ) (i : ℕ) (best : Choice) → (fetchable s counts i && before counts (count_of counts i) best) ≡ true → chosen s counts i best ≡ this_piece i
unfolding chosen
chosen_this s counts i best e = rw e

chosen_best : (s counts : List ℕ) (i : ℕ) (best : Choice) → (fetchable s counts i && before counts (count_of counts i) best) ≡ false → chosen s counts i best ≡ best
unfolding chosen
chosen_best s counts i best e = rw e

-- among the first n pieces there is none to fetch, or the choice is the best: to fetch, none of them with a smaller count, none before it
-- with the same
pub data Best (s counts : List ℕ) (n : ℕ) (c : Choice) : Type 0 where
  none : c ≡ no_piece 0 → ((j : ℕ) → j < n → fetchable s counts j ≡ false) → Best s counts n c
  this : (i : ℕ) → c ≡ this_piece i → i < n → fetchable s counts i ≡ true
      → ((j : ℕ) → j < n → fetchable s counts j ≡ true → count_of counts i ≤ count_of counts j)
      → ((j : ℕ) → j < i → fetchable s counts j ≡ true → count_of counts i < count_of counts j) → Best s counts n c

-- where nothing was chosen yet every piece goes before it,
before_nothing : (counts : List ℕ) (x : ℕ) → before counts x (no_piece 0) ≡ true
unfolding before
before_nothing counts x = refl

-- before a choice one with a smaller count,
smaller_before : (counts : List ℕ) (x i : ℕ) → x < count_of counts i → before counts x (this_piece i) ≡ true
unfolding before
smaller_before counts x i l = lt-ltb x (count_of counts i) l

-- and none with the same
same_not_before : (counts : List ℕ) (x i : ℕ) → count_of counts i ≤ x → before counts x (this_piece i) ≡ false
unfolding before
same_not_before counts x i l = le-ltb x (count_of counts i) l

split : (j n : ℕ) → j < suc n → (j < n) ⊎ (j ≡ n)
split j n l = elim (lt_or_ge j n) [ inl a ↦ inl a | inr a ↦ inr (omega arith) ]

step : (s counts : List ℕ) (n : ℕ) (c : Choice) → Best s counts n c → Best s counts (suc n) (chosen s counts n c)
step s counts n c (none e empty) =
    elim (either (fetchable s counts n)) [
      | inl f ↦
          let g : (fetchable s counts n && before counts (count_of counts n) c) ≡ true = rw (f, e, before_nothing counts (count_of counts n)) in
          this n (chosen_this s counts n c g) (omega arith) f
          (λ j l h. elim (split j n l) [ inl a ↦ absurd (not_both h (empty j a)) | inr a ↦ (let z : count_of counts n ≡ count_of counts j = ap (count_of counts) (sym a) in omega arith) ])
          (λ j l h. absurd (not_both h (empty j l)))
      | inr f ↦
          let g : (fetchable s counts n && before counts (count_of counts n) c) ≡ false = rw f in
          none (chosen_best s counts n c g ∙ e) (λ j l. elim (split j n l) [ inl a ↦ empty j a | inr a ↦ ap (fetchable s counts) a ∙ f ])
    ]
step s counts n c (this i e b f all low) =
    elim (either (fetchable s counts n)) [
      | inr g ↦
          let q : (fetchable s counts n && before counts (count_of counts n) c) ≡ false = rw g in
          this i (chosen_best s counts n c q ∙ e) (omega arith) f
          (λ j l h. elim (split j n l) [ inl a ↦ all j a h | inr a ↦ absurd (not_both (ap (fetchable s counts) (sym a) ∙ h) g) ]) low
      | inl g ↦
          elim (lt_or_ge (count_of counts n) (count_of counts i)) [
            | inl k ↦
                let q : (fetchable s counts n && before counts (count_of counts n) c) ≡ true = rw (g, e, smaller_before counts (count_of counts n) i k) in
                this n (chosen_this s counts n c q) (omega arith) g
                (λ j l h. elim (split j n l) [ inl a ↦ omega (arith, all j a h) | inr a ↦ (let z : count_of counts n ≡ count_of counts j = ap (count_of counts) (sym a) in omega arith) ])
                (λ j l h. omega (arith, all j l h))
            | inr k ↦
                let q : (fetchable s counts n && before counts (count_of counts n) c) ≡ false = rw (g, e, same_not_before counts (count_of counts n) i k) in
                this i (chosen_best s counts n c q ∙ e) (omega arith) f
                (λ j l h. elim (split j n l) [ inl a ↦ all j a h | inr a ↦ (let z : count_of counts n ≡ count_of counts j = ap (count_of counts) (sym a) in omega arith) ]) low
          ]
    ]

pub best_is : (s counts : List ℕ) (n : ℕ) → Best s counts n (best_of s counts n)
unfolding best_of
best_is s counts zero = none refl (λ j l. (let w : ⊥ = omega arith in absurd w))
best_is s counts (suc n) = step s counts n (best_of s counts n) (best_is s counts n)

-- the choice made so far is a piece looked at, or 0
pub best_low : (s counts : List ℕ) (n : ℕ) → (best_of s counts n).piece ≤ n
best_low s counts n = by (best_is s counts n)
  where
    by : Best s counts n (best_of s counts n) → (best_of s counts n).piece ≤ n
    by (none e empty) = omega (arith, ap (λ (c : Choice). c.piece) e)
    by (this i e b f all low) = omega (arith, ap (λ (c : Choice). c.piece) e)

pub best_more : (s counts : List ℕ) (n : ℕ) → chosen s counts n (best_of s counts n) ≡ best_of s counts (n + 1)
best_more s counts n = let e : n + 1 ≡ suc n = omega arith in sym (ap (best_of s counts) e ∙ (unfold best_of in refl))

pub best_none : (s counts : List ℕ) → best_of s counts 0 ≡ no_piece 0
unfolding best_of
best_none s counts = refl

-- ---- one more piece

pub not_wanted : (s counts : List ℕ) (i : ℕ) (best : Choice) → count_of counts i ≡ 0 → best ≡ chosen s counts i best
unfolding chosen fetchable
not_wanted s counts i best e = rw e

pub not_rarer : (s counts : List ℕ) (i : ℕ) (best : Choice) → before counts (count_of counts i) best ≡ false → best ≡ chosen s counts i best
unfolding chosen
not_rarer s counts i best e = by (fetchable s counts i)
  where
    by : (b : Bool) → best ≡ cond (b && before counts (count_of counts i) best) (this_piece i) best
    by true = rw e
    by false = refl

module _ (s counts : List ℕ) (i : ℕ) (best : Choice) (m : Bool) (r : m ≡ piece_marked s i) where
  pub not_lacking : m ≡ true → best ≡ chosen s counts i best
  unfolding chosen fetchable
  not_lacking e = by (ltb 0 (count_of counts i))
    where
      by : (b : Bool) → best ≡ cond ((b && not (piece_marked s i)) && before counts (count_of counts i) best) (this_piece i) best
      by true = rw (← r, e)
      by false = refl

  pub is_rarer : m ≡ false → (count_of counts i ≡ 0 → ⊥) → before counts (count_of counts i) best ≡ true → this_piece i ≡ chosen s counts i best
  unfolding chosen fetchable
  is_rarer e ne b = sym (rw (lt-ltb 0 (count_of counts i) (pos (count_of counts i) ne), ← r, e, b))
    where
      pos : (x : ℕ) → (x ≡ 0 → ⊥) → 0 < x
      pos zero ne = absurd (ne refl)
      pos (suc x) ne = omega arith
