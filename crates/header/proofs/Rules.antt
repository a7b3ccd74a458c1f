-- One law for each way out of the rules' functions.
-- Assumes nothing.
use Rattle.std.specs.Prelude.{◌≡◌, refl, Bool, true, false, ◌&&◌, ℕ, ◌+◌, ◌-◌, ◌*◌, ◌/◌, ◌%◌, ◌^◌, ◌≤◌, ◌<◌, eqb, leb}
use Rattle.std.proofs.Common.{ap, sym, ◌∙◌, arith, mod-eq_of_lt, pow_mono, eq-eqb, ne_eqb, le-leb, leb-true, lt-ltb, le-ltb}
use Rattle.std.proofs.Math.Bool.{and-false}
use Rattle.std.proofs.lemmas.Bool.{lt-leb}
use Rattle.tree.specs.Geometry.{height, node_number}
use Rattle.tree.proofs.GeometryLaws.{height_least, shifted_one}
use Rattle.header.specs.declared.Header.{Header}
use Rattle.header.specs.declared.Place.{Place}
use Rattle.limits.specs.Limits.{longest_run}
use Rattle.header.specs.Header.{length_rule, index_rule, rules_kept, place_of}
use Rattle.header.specs.HeaderLaws.{log_some}

-- ---- the length

pub length_small : (len : ℕ) → len < 2 → false ≡ length_rule len
unfolding length_rule
length_small len h = sym (rw (lt-leb 2 len h) (ap (λ (t : Bool). t && leb len longest_run) (and-false (eqb (2 ^ height len) len))))

pub length_large : (len : ℕ) → longest_run < len → false ≡ length_rule len
unfolding length_rule
length_large len h = sym (rw (lt-leb len longest_run h) (and-false (eqb (2 ^ height len) len && leb 2 len)))

-- a run's length is a number of 32 bits
pub log_small : (len : ℕ) → len ≤ 2 ^ 32 → height len ≤ 32
log_small len h = height_least len 32 h

pub length_middle : (len k : ℕ) → 2 ≤ len → len ≤ longest_run → k ≡ height len → eqb (1 * 2 ^ k % 2 ^ 64) len ≡ length_rule len
unfolding length_rule
length_middle len k a b e =
    let p : 2 ^ k ≤ 2 ^ 32 = pow_mono {i = k} {j = 32} (omega (arith, log_small len (omega arith))) in
    let o : 1 * 2 ^ k ≡ 2 ^ k = omega arith in
    let q : 1 * 2 ^ k % 2 ^ 64 ≡ 2 ^ height len = ap (λ (y : ℕ). y % 2 ^ 64) o ∙ mod-eq_of_lt (omega arith) ∙ ap (λ (y : ℕ). 2 ^ y) e in
    sym (rw (le-leb 2 len a, le-leb len longest_run b) (last (eqb (2 ^ height len) len) ∙ ap (λ (y : ℕ). eqb y len) (sym q)))
  where
    last : (t : Bool) → (t && true && true) ≡ t
    last true = refl
    last false = refl

pub length_two : (len : ℕ) → length_rule len ≡ true → 2 ≤ len
unfolding length_rule
length_two len e = leb-true 2 len (middle (eqb (2 ^ height len) len) (leb 2 len) (leb len longest_run) e)
  where
    middle : (a b c : Bool) → (a && b && c) ≡ true → b ≡ true
    middle true true c f = refl
    middle true false c f = f
    middle false b c f = absurd (mathlib.Core.Bool.false≢true f)

pub length_log : (len : ℕ) → length_rule len ≡ true → height len ≤ 32
unfolding length_rule
length_log len e = let l = leb-true len longest_run (last (eqb (2 ^ height len) len) (leb 2 len) (leb len longest_run) e) in log_small len (omega arith)
  where
    last : (a b c : Bool) → (a && b && c) ≡ true → c ≡ true
    last true true c f = f
    last true false c f = absurd (mathlib.Core.Bool.false≢true f)
    last false b c f = absurd (mathlib.Core.Bool.false≢true f)

-- ---- the index

pub index_by : (x : Header) (h d : ℕ) → h ≤ 32 → d ≡ h - x.base → leb (x.index + x.len) (1 * 2 ^ d % 2 ^ 64) ≡ index_rule x h
unfolding index_rule
index_by x h d l e = ap (leb (x.index + x.len)) (shifted_one d (omega arith) ∙ ap (λ (y : ℕ). 2 ^ y) e)

-- ---- all rules

module _ (x : Header) (h : ℕ) where
  pub rules_1 : length_rule x.len ≡ false → false ≡ rules_kept x h
  unfolding rules_kept
  rules_1 a = sym (rw a)

  module _ (a : length_rule x.len ≡ true) where
    pub rules_2 : (x.index % x.len ≡ 0 → ⊥) → false ≡ rules_kept x h
    unfolding rules_kept
    rules_2 c = sym (rw (a, ne_eqb (x.index % x.len) 0 c))

    module _ (c : x.index % x.len ≡ 0) (k : ℕ) (e : k ≡ height x.len) where
      pub rules_3 : h < x.base + k → false ≡ rules_kept x h
      unfolding rules_kept
      rules_3 d = sym (rw (a, eq-eqb (x.index % x.len) 0 c, ← e, lt-leb (x.base + k) h d))

      module _ (d : x.base + k ≤ h) where
        pub rules_4 : h ≤ x.base + x.proof → false ≡ rules_kept x h
        unfolding rules_kept
        rules_4 f = sym (rw (a, eq-eqb (x.index % x.len) 0 c, ← e, le-leb (x.base + k) h d, le-ltb (x.base + x.proof) h f))

        pub rules_5 : x.base + x.proof < h → index_rule x h ≡ rules_kept x h
        unfolding rules_kept
        rules_5 f = sym (rw (a, eq-eqb (x.index % x.len) 0 c, ← e, le-leb (x.base + k) h d, lt-ltb (x.base + x.proof) h f))

-- ---- the place

pub place_by : (x : Header) (h k u top : ℕ) → 2 ≤ x.len → k ≡ height x.len → ((k ≤ x.proof + 1 → u ≡ x.proof + 1 - k) × (x.proof + 1 < k → u ≡ 0))
    → top ≡ node_number h (x.base + k) (x.index / x.len)
    → ◌≡◌ {A = Place} (record { k = k; u = u; top = top }) (place_of x h)
unfolding place_of
place_by x h k u top l e w f =
    let s = log_some x.len l in
    let q : u ≡ x.proof - (k - 1) = by (native.Mathlib.Decide.dec_le k (x.proof + 1)) in
    cc
  where
    by : Dec (k ≤ x.proof + 1) → u ≡ x.proof - (k - 1)
    by (yes g) = w.0 g ∙ omega (arith, log_some x.len l)
    by (no n) = w.1 (omega arith) ∙ omega (arith, log_some x.len l)
