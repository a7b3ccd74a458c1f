-- What the header rules say, as facts, and where a header that keeps them stands in the tree.
-- Assumes nothing.
use Rattle.std.specs.Prelude.{◌≡◌, true, ◌&&◌, ℕ, zero, suc, ◌+◌, ◌-◌, ◌*◌, ◌/◌, ◌%◌, ◌^◌, ◌≤◌, ◌<◌, eqb, leb, ltb}
use Rattle.std.proofs.Common.{ap, ◌∙◌, div-lt_iff_lt-mul, arith, pow-add, eq-eqb, eqb-true, le-leb, leb-true, lt-ltb, ltb-true}
use Rattle.std.proofs.Math.Bool.{and-eq-true_iff}
use Rattle.tree.specs.Geometry.{height}
use Rattle.tree.proofs.GeometryLaws.{height_enough}
use Rattle.header.specs.declared.Header.{Header}
use Rattle.limits.specs.Limits.{longest_run}
use Rattle.header.specs.Header.{length_rule, index_rule, rules_kept, Kept}

index_kept : (x : Header) (h : ℕ) → index_rule x h ≡ true → x.index + x.len ≤ 2 ^ (h - x.base)
unfolding index_rule
index_kept x h e = leb-true (x.index + x.len) (2 ^ (h - x.base)) e

kept_index : (x : Header) (h : ℕ) → x.index + x.len ≤ 2 ^ (h - x.base) → index_rule x h ≡ true
unfolding index_rule
kept_index x h l = le-leb (x.index + x.len) (2 ^ (h - x.base)) l

pub rules_kept_lem : (x : Header) (h : ℕ) → rules_kept x h ≡ true → Kept x h
unfolding rules_kept length_rule
rules_kept_lem x h e =
    let p = (and-eq-true_iff _ (index_rule x h)).0 e in
    let q = (and-eq-true_iff _ (ltb (x.base + x.proof) h)).0 p.0 in
    let r = (and-eq-true_iff _ (leb (x.base + height x.len) h)).0 q.0 in
    let t = (and-eq-true_iff (eqb (2 ^ height x.len) x.len && leb 2 x.len && leb x.len longest_run) (eqb (x.index % x.len) 0)).0 r.0 in
    let v = (and-eq-true_iff _ (leb x.len longest_run)).0 t.0 in
    let w = (and-eq-true_iff (eqb (2 ^ height x.len) x.len) (leb 2 x.len)).0 v.0 in
    record {
      power = eqb-true _ _ w.0;
      two = leb-true _ _ w.1;
      most = leb-true _ _ v.1;
      multiple = eqb-true _ _ t.1;
      within = leb-true _ _ r.1;
      above = ltb-true _ _ q.1;
      inside = omega (arith, index_kept x h p.1);
    }

pub kept_rules : (x : Header) (h : ℕ) → Kept x h → rules_kept x h ≡ true
unfolding rules_kept length_rule
kept_rules x h f =
    rw (
      eq-eqb (2 ^ height x.len) x.len f.power,
      le-leb 2 x.len f.two,
      le-leb x.len longest_run f.most,
      eq-eqb (x.index % x.len) 0 f.multiple,
      le-leb (x.base + height x.len) h f.within,
      lt-ltb (x.base + x.proof) h f.above,
      kept_index x h (omega (arith, f.inside)),
    )

-- a length from 2 on has a logarithm from 1 on
pub log_some : (len : ℕ) → 2 ≤ len → 1 ≤ height len
log_some len h = by (height len) (height_enough len)
  where
    by : (k : ℕ) → len ≤ 2 ^ k → 1 ≤ k
    by zero e = absurd (omega arith)
    by (suc k) e = omega arith

-- the run's top is in its layer
pub top_inside : (x : Header) (h : ℕ) → Kept x h → x.index / x.len < 2 ^ (h - (x.base + height x.len))
top_inside x h f =
    let k : ℕ = height x.len in
    let t : ℕ = h - (x.base + k) in
    let s : h - x.base ≡ t + k = omega (arith, f.within) in
    let q : 2 ^ (h - x.base) ≡ 2 ^ t * x.len = ap (λ (y : ℕ). 2 ^ y) s ∙ pow-add 2 t k ∙ ap (λ (y : ℕ). 2 ^ t * y) f.power in
    let l : 0 < x.len = omega (arith, f.two) in
    (div-lt_iff_lt-mul l).1 (omega (arith, f.inside))
