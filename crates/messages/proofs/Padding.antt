-- One law for each way out of the functions that look at given padding.
-- Assumes nothing.
use Rattle.std.specs.Prelude.{◌≡◌, refl, Bool, true, false, cond, ◌&&◌, List, ℕ, zero, suc, ◌+◌, ◌-◌, ◌*◌, ◌/◌, ◌≤◌, ◌<◌, leb}
use Rattle.std.proofs.Common.{ap₂, sym, ◌∙◌, arith, add-one, le-leb}
use Rattle.std.proofs.Math.Bool.{and-eq-true_iff}
use Rattle.std.proofs.lemmas.Bool.{lt-leb}
use Rattle.octets.specs.Octets.{cut, same}
use Rattle.tree.specs.Geometry.{covering}
use Rattle.tree.specs.Values.{pad_value}
use Rattle.settling.specs.Path.{sibling, uncle}
use Rattle.messages.specs.Padded.{all_from, run_padded, uncle_padded, uncles_padded}

-- ---- a run

-- none of them is looked at
pub all_none : (run v : List ℕ) (from n : ℕ) → n ≤ from → all_from run v from n ≡ true
unfolding all_from
all_none run v from zero h = refl
all_none run v from (suc n) h = rw (all_none run v from n (omega arith), lt-leb from n h)

pub all_more : (run v : List ℕ) (from i : ℕ) → from ≤ i → all_from run v from i ≡ true → same (cut run (32 * i) 32) v ≡ true → all_from run v from (i + 1) ≡ true
unfolding all_from
all_more run v from i l a e = rw (add-one i, a, le-leb from i l, e)

-- fewer of them
pub all_shorter : (run v : List ℕ) (from n d : ℕ) → all_from run v from (d + n) ≡ true → all_from run v from n ≡ true
unfolding all_from
all_shorter run v from n zero a = let e : 0 + n ≡ n = omega arith in rw e at a
all_shorter run v from n (suc d) a =
    let e : suc d + n ≡ suc (d + n) = omega arith in
    let b : all_from run v from (suc (d + n)) ≡ true = rw e at a in
    all_shorter run v from n d ((and-eq-true_iff (all_from run v from (d + n)) _).0 b).0

pub all_done : (run v : List ℕ) (from n i : ℕ) → n ≤ i → all_from run v from i ≡ true → true ≡ all_from run v from n
all_done run v from n i h a =
    let e : i - n + n ≡ i = omega arith in
    sym (all_shorter run v from n (i - n) (rw e a))

pub all_fails : (run v : List ℕ) (from n i : ℕ) → from ≤ i → i < n → same (cut run (32 * i) 32) v ≡ false → false ≡ all_from run v from n
unfolding all_from
all_fails run v from n i l h e = by (all_from run v from n) refl
  where
    by : (t : Bool) → all_from run v from n ≡ t → false ≡ t
    by false a = refl
    by true a =
        let w : n - suc i + suc i ≡ n = omega arith in
        let s : all_from run v from (suc i) ≡ true = all_shorter run v from (suc i) (n - suc i) (rw w a) in
        let p : cond (leb from i) (same (cut run (32 * i) 32) v) true ≡ true = ((and-eq-true_iff (all_from run v from i) _).0 (unfold all_from in s)).1 in
        sym e ∙ (rw (le-leb from i l) at p)

pub run_past : (run v : List ℕ) (b base index len c : ℕ) (r : Bool) → c ≡ covering b base → v ≡ pad_value base → c ≤ index → r ≡ all_from run v 0 len → r ≡ run_padded run b base index len
unfolding run_padded
run_past run v b base index len c r e f h g =
    let z : covering b base - index ≡ 0 = omega arith in
    g ∙ rw (z, ← f)

pub run_before : (run v : List ℕ) (b base index len c : ℕ) (r : Bool) → c ≡ covering b base → v ≡ pad_value base → r ≡ all_from run v (c - index) len → r ≡ run_padded run b base index len
unfolding run_padded
run_before run v b base index len c r e f g = cc

-- ---- uncles

module _ (hashes : List ℕ) (b i l x c y : ℕ) (p : c ≡ covering b l) (q : y ≡ sibling x) where
  pub uncle_free : y < c → true ≡ uncle_padded hashes b i l x
  unfolding uncle_padded
  uncle_free h = let t : leb (covering b l) (sibling x) ≡ false = rw (← p, ← q) (lt-leb c y h) in sym (rw t)

  pub uncle_looked : (w v : List ℕ) (r : Bool) → c ≤ y → w ≡ cut hashes (32 * i) 32 → v ≡ pad_value l → r ≡ same w v → r ≡ uncle_padded hashes b i l x
  unfolding uncle_padded uncle
  uncle_looked w v r h e f g =
      let t : leb (covering b l) (sibling x) ≡ true = rw (← p, ← q) (le-leb c y h) in
      g ∙ ap₂ (λ (m n : List ℕ). same m n) e f ∙ sym (rw t)

uncles_step : (hashes : List ℕ) (b i u l x : ℕ) → (u ≡ 0 → ⊥)
    → uncles_padded hashes b i u l x ≡ (uncle_padded hashes b i l x && uncles_padded hashes b (i + 1) (u - 1) (l + 1) (x / 2))
unfolding uncles_padded
uncles_step hashes b i zero l x n = absurd (n refl)
uncles_step hashes b i (suc u) l x n = let e : suc u - 1 ≡ u = omega arith in rw (e, add-one l)

module _ (hashes : List ℕ) (b i u l x : ℕ) where
  pub uncles_none : u ≡ 0 → true ≡ uncles_padded hashes b i u l x
  unfolding uncles_padded
  uncles_none e = sym (rw e)

  pub uncles_wrong : (t : Bool) → (u ≡ 0 → ⊥) → t ≡ uncle_padded hashes b i l x → t ≡ false → false ≡ uncles_padded hashes b i u l x
  uncles_wrong t n e f = sym (uncles_step hashes b i u l x n ∙ rw (← e, f))

  pub uncles_right : (t r : Bool) → (u ≡ 0 → ⊥) → t ≡ uncle_padded hashes b i l x → t ≡ true
      → r ≡ uncles_padded hashes b (i + 1) (u - 1) (l + 1) (x / 2) → r ≡ uncles_padded hashes b i u l x
  uncles_right t r n e f g = g ∙ sym (uncles_step hashes b i u l x n ∙ rw (← e, f))
