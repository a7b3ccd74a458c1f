-- The order by layer and then index, as a number: the first position of layer 0 is 0, the root the last; the parent of r is 2^h + r / 2.
-- Assumes nothing.
use Rattle.std.specs.Prelude.{◌≡◌, refl, List, ℕ, suc, ◌+◌, ◌-◌, ◌*◌, ◌%◌, ◌^◌, ◌≤◌, ◌<◌}
use Rattle.std.proofs.Common.{ap, sym, ◌∙◌, arith, pow_pos, pow_mono}
use Rattle.std.proofs.Math.Nat.{pow-succ', pow-zero}
use Rattle.std.proofs.Math.Decide.{dec_lt}
use Rattle.tree.proofs.GeometryLaws.{layer_doubles}
use Rattle.saved.specs.Form.{rank, rank_in, next_rank}

pub width_most : (h l : ℕ) → 2 ^ (h - l) ≤ 2 ^ h
width_most h l = pow_mono (omega arith)

-- no rank is above the root's, 2·2^h - 2
pub rank_most : (h l i : ℕ) → i < 2 ^ (h - l) → rank h l i + 2 ≤ 2 * 2 ^ h
unfolding rank
rank_most h l i b = omega (arith, width_most h l, pow_pos (h - l))

pub rank_root : (h : ℕ) → rank h h 0 + 2 ≡ 2 * 2 ^ h
unfolding rank
rank_root h = let e : 2 ^ (h - h) ≡ 1 = let z : h - h ≡ 0 = omega arith in rw (z, pow-zero 2) in omega (arith, pow_pos h)

-- a left child below the root has two numbers less, at least
pub rank_below : (h l i : ℕ) → l < h → i < 2 ^ (h - l) → i % 2 ≡ 0 → rank h l i + 4 ≤ 2 * 2 ^ h
unfolding rank
rank_below h l i lt b z = omega (arith, width_most h l, layer_doubles h l lt, pow_pos (h - suc l))

-- the parent's rank
pub rank_parent : (h l i : ℕ) → l < h → rank h l (2 * i) + 2 * 2 ^ h ≡ 2 * rank h (suc l) i
unfolding rank
rank_parent h l i lt = omega (arith, width_most h l, layer_doubles h l lt)

pub rank_next : (h l i : ℕ) → rank h l (i + 1) ≡ rank h l i + 1
unfolding rank
rank_next h l i = omega arith

pub rank_parity : (h l i : ℕ) → rank h l i % 2 ≡ i % 2
unfolding rank
rank_parity h l i = omega (arith, width_most h l)

-- it rises by layer,
pub rank_layer : (h l i m j : ℕ) → m ≤ h → l < m → i < 2 ^ (h - l) → rank h l i < rank h m j
unfolding rank
rank_layer h l i m j mh lt b =
    let g : 2 ^ suc (h - m) ≤ 2 ^ (h - l) = pow_mono (omega arith) in
    omega (arith, width_most h l, width_most h m, pow-succ' 2 (h - m))

rank_same : (h l i j : ℕ) → rank h l i ≡ rank h l j → i ≡ j
unfolding rank
rank_same h l i j e = omega arith

-- two positions of one rank are one position
pub rank_distinct : (h l i m j : ℕ) → l ≤ h → m ≤ h → i < 2 ^ (h - l) → j < 2 ^ (h - m) → rank h l i ≡ rank h m j → (l ≡ m) × (i ≡ j)
rank_distinct h l i m j lh mh ib jb e =
    elim (dec_lt l m) [
      | yes y ↦ absurd (omega (arith, rank_layer h l i m j mh y ib))
      | no n ↦ elim (dec_lt m l) [
        | yes y ↦ absurd (omega (arith, rank_layer h m j l i lh y jb))
        | no k ↦
            let q : l ≡ m = omega arith in
            let e2 : rank h m i ≡ rank h m j = ap (λ (x : ℕ). rank h x i) (sym q) ∙ e in
            (q, rank_same h m i j e2)
      ]
    ]

-- behind a record the rank is above its own
pub rank_after : (h : ℕ) (b : List ℕ) (k : ℕ) → next_rank h b (suc k) ≡ suc (rank_in h b k)
unfolding next_rank
rank_after h b k = refl
