-- What `put` changes and what it leaves. Nothing above these laws looks at a store's bytes.
-- Assumes nothing.
use Rattle.std.specs.Prelude.{◌≡◌, List, ◌∷◌, true, false, ◌⊎◌, ℕ, suc, ◌+◌, ◌-◌, ◌*◌, ◌≤◌, ◌<◌}
use Rattle.std.proofs.Math.Path.{ap, sym}
use Rattle.std.proofs.Common.{◌∙◌, lt_of_not-le, arith}
use Rattle.std.proofs.Math.Logic.{inl, inr}
use Rattle.std.proofs.Math.Decide.{dec_le}
use Rattle.std.proofs.Math.ListN.{length, get_or}
use Rattle.std.proofs.Math.Seq.{ext_get_or}
use Rattle.std.proofs.Math.Dec.{eqb}
use Rattle.octets.specs.Octets.{cut, pasted}
use Rattle.octets.specs.OctetsLaws.{cut_length, get_or_cut, pasted_length, get_or_pasted_before, get_or_pasted_in, get_or_pasted_after, cut_pasted_other}
use Rattle.cells.specs.Cells.{Room, held_at, hash_at, put}

-- one order or the other
pub lt_or_ge : (m n : ℕ) → (m < n) ⊎ (n ≤ m)
lt_or_ge m n = elim (dec_le n m) [ yes h ↦ inr h | no h ↦ inl (lt_of_not-le h) ]

-- i is a byte of position n's cell
abbrev pub InCell : ℕ → ℕ → Type 0
InCell n i = (31 + 33 * n ≤ i) × (i < 64 + 33 * n)

module _ (s : List ℕ) (b n : ℕ) (room : Room b s) (below : n < b) where
  pub hash_length : length (hash_at s n) ≡ 32
  unfolding hash_at
  hash_length = cut_length s (32 + 33 * n) 32 (omega arith)

  module _ (h : List ℕ) (size : length h ≡ 32) where
    fits : 31 + 33 * n + length (1 ∷ h) ≤ length s
    fits = omega arith

    pub put_length : length (put s n h) ≡ length s
    unfolding put
    put_length = pasted_length s (31 + 33 * n) (1 ∷ h) fits

    pub put_room : Room b (put s n h)
    put_room = rw put_length room

    -- a byte of the cell, whatever the store was
    pub put_inside : (i : ℕ) → InCell n i → get_or (put s n h) i 0 ≡ get_or (1 ∷ h) (i - (31 + 33 * n)) 0
    unfolding put
    put_inside i c =
        let e : 31 + 33 * n + (i - (31 + 33 * n)) ≡ i = omega arith in
        ap (λ (k : ℕ). get_or (pasted s (31 + 33 * n) (1 ∷ h)) k 0) (sym e)
        ∙ get_or_pasted_in s (31 + 33 * n) (1 ∷ h) fits (i - (31 + 33 * n)) (omega arith)

    -- a byte outside stays
    pub put_outside : (i : ℕ) → (InCell n i → ⊥) → get_or (put s n h) i 0 ≡ get_or s i 0
    unfolding put
    put_outside i o =
        elim (lt_or_ge i (31 + 33 * n)) [
          | inl l ↦ get_or_pasted_before s (31 + 33 * n) (1 ∷ h) fits i l
          | inr g ↦ elim (lt_or_ge i (64 + 33 * n)) [
            | inl l ↦ absurd (o (g, l))
            | inr k ↦ get_or_pasted_after s (31 + 33 * n) (1 ∷ h) fits i (omega arith)
          ]
        ]

    pub held_put_same : held_at (put s n h) n ≡ true
    unfolding held_at
    held_put_same =
        let e : 31 + 33 * n - (31 + 33 * n) ≡ 0 = omega arith in
        ap (λ (x : ℕ). eqb x 1) (put_inside (31 + 33 * n) (omega arith) ∙ ap (λ (k : ℕ). get_or (1 ∷ h) k 0) e)

    pub hash_put_same : hash_at (put s n h) n ≡ h
    unfolding hash_at
    hash_put_same =
        let l : length (cut (put s n h) (32 + 33 * n) 32) ≡ 32 = cut_length (put s n h) (32 + 33 * n) 32 (omega (arith, put_length)) in
        ext_get_or 0 (cut (put s n h) (32 + 33 * n) 32) h (l ∙ sym size)
        (λ i g.
        let q : 32 + 33 * n + i - (31 + 33 * n) ≡ suc i = omega arith in
        get_or_cut (put s n h) (32 + 33 * n) 32 i (omega arith)
        ∙ put_inside (32 + 33 * n + i) (omega arith)
        ∙ ap (λ (k : ℕ). get_or (1 ∷ h) k 0) q)

    pub held_put_other : (m : ℕ) → (m ≡ n → ⊥) → held_at (put s n h) m ≡ held_at s m
    unfolding held_at
    held_put_other m ne = ap (λ (x : ℕ). eqb x 1) (put_outside (31 + 33 * m) (λ c. ne (omega arith)))

    pub hash_put_other : (m : ℕ) → m < b → (m ≡ n → ⊥) → hash_at (put s n h) m ≡ hash_at s m
    unfolding hash_at put
    hash_put_other m l ne =
        cut_pasted_other s (31 + 33 * n) (1 ∷ h) fits (32 + 33 * m) 32 (omega arith)
        (elim (lt_or_ge m n) [ inl x ↦ inl (omega arith) | inr x ↦ inr (omega arith) ])

pub unheld : (s : List ℕ) (n : ℕ) → get_or s (31 + 33 * n) 0 ≡ 0 → held_at s n ≡ false
unfolding held_at
unheld s n e = rw e
