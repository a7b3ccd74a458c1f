-- Bytes copied in parts that may overlap: how far a copy has come, and that it is whole at the end.
-- Assumes nothing.
use Rattle.std.specs.Prelude.{◌≡◌, refl, List, ◌⊎◌, ℕ, ◌+◌, ◌-◌, ◌≤◌, ◌<◌, length, get_or}
use Rattle.std.proofs.Common.{ap, sym, ◌∙◌, inl, inr, arith, ext_get_or}
use Rattle.std.proofs.Math.Decide.{dec_lt}
use Rattle.octets.specs.Octets.{cut, pasted}
use Rattle.octets.specs.OctetsLaws.{cut_length, get_or_cut, pasted_length, get_or_pasted_before, get_or_pasted_in, get_or_pasted_after}

-- of the copy of s into `room` from `at` on, the first i bytes are there, and nothing else is touched
pub record Copied (room : List ℕ) (at : ℕ) (s : List ℕ) (i : ℕ) (now : List ℕ) : Type 0 where
  pub size : length now ≡ length room
  pub front : (x : ℕ) → x < i → get_or now (at + x) 0 ≡ get_or s x 0
  pub before : (x : ℕ) → x < at → get_or now x 0 ≡ get_or room x 0
  pub behind : (x : ℕ) → at + length s ≤ x → get_or now x 0 ≡ get_or room x 0

pub copied_none : (room : List ℕ) (at : ℕ) (s : List ℕ) → Copied room at s 0 room
copied_none room at s = record { size = refl; front = λ x h. let w : ⊥ = omega arith in absurd w; before = λ x h. refl; behind = λ x h. refl }

-- a part from j on, where j bytes are there already
pub copied_part : (room : List ℕ) (at : ℕ) (s : List ℕ) (i : ℕ) (now : List ℕ) (j k m : ℕ) (then : List ℕ) → Copied room at s i now → j ≤ i → j + k ≤ length s
    → at + length s ≤ length room → (m ≤ i) ⊎ (m ≤ j + k) → then ≡ pasted now (at + j) (cut s j k) → Copied room at s m then
copied_part room at s i now j k m then c a b h w e =
    record {
      size = ap length e ∙ pasted_length now (at + j) (cut s j k) fits ∙ c.size;
      front = λ x l. ap (λ (t : List ℕ). get_or t (at + x) 0) e ∙ by_place x (reached x l) (dec_lt x j) (dec_lt x (j + k));
      before = λ x l. ap (λ (t : List ℕ). get_or t x 0) e ∙ get_or_pasted_before now (at + j) (cut s j k) fits x (omega arith) ∙ c.before x l;
      behind = λ x l. ap (λ (t : List ℕ). get_or t x 0) e ∙ get_or_pasted_after now (at + j) (cut s j k) fits x (omega (arith, lc)) ∙ c.behind x l;
    }
  where
    lc : length (cut s j k) ≡ k
    lc = cut_length s j k b

    fits : at + j + length (cut s j k) ≤ length now
    fits = omega (arith, lc, c.size)

    reached : (x : ℕ) → x < m → (x < i) ⊎ (x < j + k)
    reached x l = elim w [ inl p ↦ inl (omega arith) | inr p ↦ inr (omega arith) ]

    by_place : (x : ℕ) → (x < i) ⊎ (x < j + k) → Dec (x < j) → Dec (x < j + k) → get_or (pasted now (at + j) (cut s j k)) (at + x) 0 ≡ get_or s x 0
    by_place x r (yes l) d = get_or_pasted_before now (at + j) (cut s j k) fits (at + x) (omega arith) ∙ c.front x (omega arith)
    by_place x r (no l) (yes d) =
        let p : at + x ≡ at + j + (x - j) = omega arith in
        let q : j + (x - j) ≡ x = omega arith in
        ap (λ (y : ℕ). get_or (pasted now (at + j) (cut s j k)) y 0) p
        ∙ get_or_pasted_in now (at + j) (cut s j k) fits (x - j) (omega (arith, lc))
        ∙ get_or_cut s j k (x - j) (omega arith)
        ∙ ap (λ (y : ℕ). get_or s y 0) q
    by_place x (inl r) (no l) (no d) = get_or_pasted_after now (at + j) (cut s j k) fits (at + x) (omega (arith, lc)) ∙ c.front x r
    by_place x (inr r) (no l) (no d) = absurd (d r)

-- all bytes are there
pub copied_whole : (room : List ℕ) (at : ℕ) (s now : List ℕ) → Copied room at s (length s) now → at + length s ≤ length room → now ≡ pasted room at s
copied_whole room at s now c h = ext_get_or 0 now (pasted room at s) (c.size ∙ sym (pasted_length room at s h)) (λ x l. by_place x (dec_lt x at) (dec_lt x (at + length s)))
  where
    by_place : (x : ℕ) → Dec (x < at) → Dec (x < at + length s) → get_or now x 0 ≡ get_or (pasted room at s) x 0
    by_place x (yes l) d = c.before x l ∙ sym (get_or_pasted_before room at s h x l)
    by_place x (no l) (yes d) =
        let p : x ≡ at + (x - at) = omega arith in
        ap (λ (y : ℕ). get_or now y 0) p ∙ c.front (x - at) (omega arith) ∙ sym (get_or_pasted_in room at s h (x - at) (omega arith)) ∙ ap (λ (y : ℕ). get_or (pasted room at s) y 0) (sym p)
    by_place x (no l) (no d) = c.behind x (omega arith) ∙ sym (get_or_pasted_after room at s h x (omega arith))
