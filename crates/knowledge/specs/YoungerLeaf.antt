-- In a store of ours one leaf is enough: where the leaf over the earlier end is held, so is every peak, beside its path to the root.
-- Assumes nothing.
use Rattle.std.specs.Prelude.{◌≡◌, List, ℕ, zero, suc, ◌+◌, ◌-◌, ◌*◌, ◌/◌, ◌%◌, ◌^◌, ◌≤◌, ◌<◌}
use Rattle.std.proofs.Common.{ap, sym, ◌∙◌, subst, arith, div-lt_iff_lt-mul, add-mul, one-mul, pow_pos, pow_mono}
use Rattle.std.proofs.Math.Decide.{dec_lt, ℕ_discrete}
use Rattle.std.proofs.Math.Nat.{div-div-eq-div-mul, pow-succ'}
use Rattle.sha256.specs.Sha256.{pair_hash}
use Rattle.store.specs.Store.{file_length, height_of}
use Rattle.store.specs.StoreLaws.{facts_leaves}
use Rattle.settling.specs.Path.{sibling}
use Rattle.settling.specs.PathLaws.{sibling_even, sibling_odd}
use Rattle.extends.specs.Extends.{whole_blocks, rest_size}
use Rattle.extends.proofs.ExtendsLaws.{ends_whole}
use Rattle.words.specs.Held.{Holds}
use Rattle.words.specs.FourClauses.{FourClauses}
use Rattle.words.specs.History.{OurStore}
use Rattle.words.specs.Younger.{Peak, Needed}
use Rattle.knowledge.specs.OwnBytes.{ours_have}
use Rattle.knowledge.specs.OursMeet.{ours_meet}
use Rattle.knowledge.specs.YoungerSince.{last_blocks}

path_halves : (w l : ℕ) → w / 2 ^ suc l ≡ w / 2 ^ l / 2
path_halves w l =
    let e : 2 ^ suc l ≡ 2 ^ l * 2 = omega (arith, pow-succ' 2 l) in
    ap (λ (x : ℕ). w / x) e ∙ sym (div-div-eq-div-mul w (2 ^ l) 2)

-- above a held position its parent is held, and so the whole path
up_held : (s : List ℕ) → FourClauses s → (l i : ℕ) → l < height_of s → (x : List ℕ) → Holds s l i x → (z : List ℕ) × Holds s (suc l) (i / 2) z
up_held s f l i low x h =
    let y = f.beside l i x low h in
    elim (ℕ_discrete (i % 2) 0) [
      | yes z ↦
          let e : i ≡ 2 * (i / 2) = omega arith in
          let q : i + 1 ≡ 2 * (i / 2) + 1 = omega arith in (
            pair_hash x y.0,
            f.above l (i / 2) x y.0 low (subst (λ (j : ℕ). Holds s l j x) e h) (subst (λ (j : ℕ). Holds s l j y.0) (sibling_even i z ∙ q) y.1),
          )
      | no z ↦
          let e : i ≡ 2 * (i / 2) + 1 = omega arith in
          let q : i - 1 ≡ 2 * (i / 2) = omega arith in (
            pair_hash y.0 x,
            f.above l (i / 2) y.0 x low (subst (λ (j : ℕ). Holds s l j y.0) (sibling_odd i z ∙ q) y.1) (subst (λ (j : ℕ). Holds s l j x) e h),
          )
    ]

path_held : (s : List ℕ) → FourClauses s → (w : ℕ) (v : List ℕ) → Holds s 0 w v → (l : ℕ) → l ≤ height_of s → (x : List ℕ) × Holds s l (w / 2 ^ l) x
path_held s f w v h zero low = let e : w / 2 ^ 0 ≡ w = omega arith in (v, subst (λ (j : ℕ). Holds s 0 j v) (sym e) h)
path_held s f w v h (suc l) low =
    let k = path_held s f w v h l (omega arith) in
    let z = up_held s f l (w / 2 ^ l) (omega arith) k.0 k.1 in
    (z.0, subst (λ (j : ℕ). Holds s (suc l) j z.0) (sym (path_halves w l)) z.1)

-- a peak stands beside the path
beside_of : (j i : ℕ) → i < j → j / 2 < i / 2 + 1 → sibling j ≡ i
beside_of j i a b = let e : j - 1 ≡ i = omega arith in sibling_odd j (λ z. omega arith) ∙ e

peak_beside : (n l i : ℕ) → Peak n l i → sibling (whole_blocks n / 2 ^ l) ≡ i
peak_beside n l i p =
    beside_of (whole_blocks n / 2 ^ l) i (ends_whole (whole_blocks n) l i p.whole)
    (let b : whole_blocks n / 2 ^ suc l < i / 2 + 1 = (div-lt_iff_lt-mul (pow_pos (suc l))).1 p.top in rw (path_halves (whole_blocks n) l) at b)

-- below the root
peak_low : (n h l i : ℕ) → whole_blocks n < 2 ^ h → Peak n l i → l < h
peak_low n h l i m p = by (dec_lt l h)
  where
    by : Dec (l < h) → l < h
    by (yes a) = a
    by (no a) =
        let c : 2 ^ h ≤ 2 ^ l = pow_mono {i = h} {j = l} (omega arith) in
        absurd (omega (arith, p.whole, add-mul i 1 (2 ^ l), one-mul (2 ^ l)))

-- THE LEAF OVER THE EARLIER END IS ENOUGH, in a store of ours
pub leaf_enough : {s : List ℕ} → OurStore s → (n : ℕ) → n ≤ file_length s → (rest_size n ≡ 0 → ⊥) → (v : List ℕ) → Holds s 0 (whole_blocks n) v → Needed s n
leaf_enough {s} o n most r v h =
    record {
      leaf = λ q. (v, h);
      peaks = λ l i p.
          (let low = peak_low n (height_of s) l i (omega (arith, last_blocks s n most r, facts_leaves s (ours_have o).chained.facts)) p in
          let k = path_held s (ours_meet o) (whole_blocks n) v h l (omega (arith, low)) in
          let y = (ours_meet o).beside l (whole_blocks n / 2 ^ l) k.0 low k.1 in
          (y.0, subst (λ (j : ℕ). Holds s l j y.0) (peak_beside n l i p) y.1));
    }
