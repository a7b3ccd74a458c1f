-- Positions by layer and index: hashes at some positions, and the hashes of two neighbours above them. What a subtree settles is
-- this over its leaves.
-- Assumes nothing.
use Rattle.std.specs.Prelude.{◌≡◌, refl, List, ◌⊎◌, ◌↔◌, ℕ, zero, suc, ◌+◌, ◌-◌, ◌*◌, ◌/◌, ◌^◌, ◌≤◌, ◌<◌}
use Rattle.std.proofs.Math.Path.{ap, subst}
use Rattle.std.proofs.Common.{ap₂, sym, ◌∙◌, inl, inr, mul_assoc, add-mul, one-mul, mul-le-mul_right, pow-add, pow_pos, arith}
use Rattle.std.proofs.Math.Nat.{pow-succ', pow-zero}
use Rattle.std.proofs.Math.Decide.{ℕ_discrete}
use Rattle.sha256.specs.Sha256.{pair_hash}
use Rattle.tree.specs.Geometry.{node_number}
use Rattle.tree.proofs.GeometryLaws.{node_number_left, node_number_right, node_number_distinct, node_number_range}
use Rattle.tree.specs.Values.{node}
use Rattle.cells.specs.Entries.{Entry}
use Rattle.cells.specs.EntriesLaws.{In, Has, has_same, Consistent, apart_consistent}
use Rattle.settling.specs.Subtree.{subtree}
use Rattle.settling.specs.SubtreeLaws.{FamilyIn, subtree_has, subtree_value, subtree_apart, subtree_family, number_below}
use Rattle.saved.specs.Clauses.{Hashes}
use Rattle.words.specs.Pieces.{Over, at_leaf, above}

-- with the hashes of two children there is the hash of left then right above them
abbrev pub Rises : Hashes → Type 0
Rises R = (l i : ℕ) (x y : List ℕ) → R l (2 * i) x → R l (2 * i + 1) y → R (suc l) i (pair_hash x y)

-- ---- positions and entries

-- position i of layer l, in a tree of height h, has an entry with hash v
pub record Entered (h : ℕ) (L : List Entry) (l i : ℕ) (v : List ℕ) : Type 0 where
  pub low : l ≤ h
  pub inside : i < 2 ^ (h - l)
  pub has : Has (node_number h l i) v L

-- a list in which each entry is the anchor's or has its family, has the parent of every two children
module _ (h a : ℕ) (L : List Entry) (c : Consistent L) (f : (e : Entry) → In e L → (e.at ≡ a) ⊎ FamilyIn L e.at) where
  family_parent : (q n : ℕ) (x y : List ℕ) → q / 2 ≡ n → Has (2 * n) x L → Has (2 * n + 1) y L → FamilyIn L q → Has n (pair_hash x y) L
  family_parent q n x y e p r w =
      let l : Has (2 * n) w.l L = rw e at w.left in
      let g : Has (2 * n + 1) w.r L = rw e at w.right in
      let t : Has n (pair_hash w.l w.r) L = rw e at w.parent in
      let ex = c (record { at = 2 * n; hash = w.l }) (record { at = 2 * n; hash = x }) l p refl in
      let ey = c (record { at = 2 * n + 1; hash = w.r }) (record { at = 2 * n + 1; hash = y }) g r refl in
      has_same L n n (pair_hash w.l w.r) (pair_hash x y) refl (ap₂ pair_hash ex ey) t

  number_parent : (n : ℕ) (x y : List ℕ) → Has (2 * n) x L → Has (2 * n + 1) y L → Has n (pair_hash x y) L
  number_parent n x y p r =
      elim (f (record { at = 2 * n; hash = x }) p) [
        | inr w ↦ family_parent (2 * n) n x y (omega arith) p r w
        | inl e ↦ elim (f (record { at = 2 * n + 1; hash = y }) r) [
          | inr w ↦ family_parent (2 * n + 1) n x y (omega arith) p r w
          | inl g ↦ let w : ⊥ = omega arith in absurd w
        ]
      ]

  -- so where both children have entries, their parent has one with the hash of left then right
  pub entered_parent : (l i : ℕ) (x y : List ℕ) → Entered h L l (2 * i) x → Entered h L l (2 * i + 1) y → Entered h L (suc l) i (pair_hash x y)
  entered_parent l i x y p r =
      let lt = below l i p.low r.inside in
      let d : h - l ≡ suc (h - suc l) = omega arith in
      let w : 2 ^ (h - l) ≡ 2 * 2 ^ (h - suc l) = ap (λ (z : ℕ). 2 ^ z) d ∙ pow-succ' 2 (h - suc l) in
      record {
        low = omega arith;
        inside = omega (arith, r.inside);
        has =
            number_parent (node_number h (suc l) i) x y (rw (node_number_left h l i lt) at p.has) (rw (node_number_right h l i lt) at r.has);
      }
    where
      below : (l i : ℕ) → l ≤ h → 2 * i + 1 < 2 ^ (h - l) → l < h
      below l i g k =
          elim (ℕ_discrete l h) [
            | yes e ↦
                let z : h - l ≡ 0 = omega arith in
                let o : 2 ^ (h - l) ≡ 1 = ap (λ (y : ℕ). 2 ^ y) z ∙ pow-zero 2 in
                let w : ⊥ = omega arith in
                absurd w
            | no ne ↦ omega arith
          ]

-- a number of the tree is position i of layer l, and the hash there is v
pub record Found (h : ℕ) (R : Hashes) (n : ℕ) (v : List ℕ) : Type 0 where
  pub l : ℕ
  pub i : ℕ
  pub low : l ≤ h
  pub inside : i < 2 ^ (h - l)
  pub number : n ≡ node_number h l i
  pub settles : R l i v

-- so an entry there is this position's
pub found_at : (h : ℕ) (R : Hashes) (l i : ℕ) (v : List ℕ) → l ≤ h → i < 2 ^ (h - l) → Found h R (node_number h l i) v → R l i v
found_at h R l i v a b S =
    let d = node_number_distinct h l i S.l S.i a S.low b S.inside S.number in
    rw (← d.0, ← d.1) at S.settles

-- ---- a subtree

-- what lies d layers below a position of the tree is in the tree
below_inside : (h base k y d o : ℕ) → base + k ≤ h → y < 2 ^ (h - (base + k)) → d ≤ k → o < 2 ^ d → y * 2 ^ d + o < 2 ^ (h - (base + (k - d)))
below_inside h base k y d o a b c g =
    let ex : h - (base + k) + d ≡ h - (base + (k - d)) = omega arith in
    let pw : 2 ^ (h - (base + k)) * 2 ^ d ≡ 2 ^ (h - (base + (k - d))) = sym (pow-add 2 (h - (base + k)) d) ∙ ap (λ (z : ℕ). 2 ^ z) ex in
    let up : (y + 1) * 2 ^ d ≤ 2 ^ (h - (base + k)) * 2 ^ d = mul-le-mul_right (2 ^ d) (omega arith) in
    omega (arith, add-mul y 1 (2 ^ d), one-mul (2 ^ d))

module _ (R : Hashes) (rises : Rises R) (leaf : ℕ → List ℕ) (base y k : ℕ) (leaves : (j : ℕ) → j < 2 ^ k → R base (y * 2 ^ k + j) (leaf j)) where
  twice : (a b : ℕ) → a * (2 * b) ≡ 2 * (a * b)
  twice a b = sym (mul_assoc a 2 b) ∙ ap (λ (x : ℕ). x * b) (let q : a * 2 ≡ 2 * a = omega arith in q) ∙ mul_assoc 2 a b

  -- the nodes over leaves: number o of layer d, where all of them lie under number y
  pub nodes_over : (d o : ℕ) → d ≤ k → o < 2 ^ (k - d) → R (base + d) (y * 2 ^ (k - d) + o) (node leaf d o)
  unfolding node
  nodes_over zero o a b =
      let e : k - 0 ≡ k = omega arith in
      let z : base ≡ base + 0 = omega arith in
      rw e (subst (λ (x : ℕ). R x (y * 2 ^ k + o) (leaf o)) z (leaves o (rw e at b)))
  nodes_over (suc d) o a b =
      let e : k - d ≡ suc (k - suc d) = omega arith in
      let w : 2 ^ (k - d) ≡ 2 * 2 ^ (k - suc d) = ap (λ (z : ℕ). 2 ^ z) e ∙ pow-succ' 2 (k - suc d) in
      let t : y * 2 ^ (k - d) ≡ 2 * (y * 2 ^ (k - suc d)) = ap (λ (z : ℕ). y * z) w ∙ twice y (2 ^ (k - suc d)) in
      let l : y * 2 ^ (k - d) + 2 * o ≡ 2 * (y * 2 ^ (k - suc d) + o) = omega arith in
      let r : y * 2 ^ (k - d) + (2 * o + 1) ≡ 2 * (y * 2 ^ (k - suc d) + o) + 1 = omega arith in
      let z : suc (base + d) ≡ base + suc d = omega arith in
      let pl = nodes_over d (2 * o) (omega arith) (omega arith) in
      let pr = nodes_over d (2 * o + 1) (omega arith) (omega arith) in
      subst (λ (x : ℕ). R x (y * 2 ^ (k - suc d) + o) (pair_hash (node leaf d (2 * o)) (node leaf d (2 * o + 1)))) z
      (rises (base + d) (y * 2 ^ (k - suc d) + o) (node leaf d (2 * o)) (node leaf d (2 * o + 1))
      (subst (λ (x : ℕ). R (base + d) x (node leaf d (2 * o))) l pl) (subst (λ (x : ℕ). R (base + d) x (node leaf d (2 * o + 1))) r pr))

  -- the topmost
  pub top_over : R (base + k) y (node leaf k 0)
  top_over =
      let e : k - k ≡ 0 = omega arith in
      let w : y * 2 ^ (k - k) + 0 ≡ y = ap (λ (z : ℕ). y * 2 ^ z + 0) e ∙ omega (arith, pow-zero 2) in
      rw w at (nodes_over k 0 (omega arith) (pow_pos (k - k)))

  -- every entry of the subtree
  pub subtree_found : (h : ℕ) → base + k ≤ h → y < 2 ^ (h - (base + k)) → (e : Entry) → In e (subtree leaf k (node_number h (base + k) y) 0) → Found h R e.at e.hash
  subtree_found h wi ti e x =
      let Q = subtree_value leaf k (node_number h (base + k) y) 0 e x in
      let r : Q.layers ≤ k = Q.reach in
      let ly : base + k - Q.layers ≡ base + (k - Q.layers) = omega arith in
      let bk : k - (k - Q.layers) ≡ Q.layers = omega arith in
      let nb = number_below h (base + k) y Q.layers Q.offset wi (omega arith) in
      let z : 0 * 2 ^ Q.layers + Q.offset ≡ Q.offset = omega arith in
      let ob : Q.offset < 2 ^ (k - (k - Q.layers)) = rw bk Q.inside in
      let st = nodes_over (k - Q.layers) Q.offset (omega arith) ob in
      let v : node leaf (k - Q.layers) Q.offset ≡ e.hash = sym (Q.value ∙ ap (node leaf (k - Q.layers)) z) in
      record {
        l = base + (k - Q.layers);
        i = y * 2 ^ Q.layers + Q.offset;
        low = omega arith;
        inside = below_inside h base k y Q.layers Q.offset wi ti r Q.inside;
        number = Q.position ∙ nb ∙ ap (λ (q : ℕ). node_number h q (y * 2 ^ Q.layers + Q.offset)) ly;
        settles = rw v at (rw bk at st);
      }

module _ (leaf : ℕ → List ℕ) (h base y k : ℕ) (wi : base + k ≤ h) (ti : y < 2 ^ (h - (base + k))) where
  subtree_consistent : Consistent (subtree leaf k (node_number h (base + k) y) 0)
  subtree_consistent =
      apart_consistent (subtree leaf k (node_number h (base + k) y) 0) (subtree_apart leaf k (node_number h (base + k) y) 0 (node_number_range h (base + k) y ti).0)

  families : (e : Entry) → In e (subtree leaf k (node_number h (base + k) y) 0)
      → (e.at ≡ node_number h (base + k) y) ⊎ FamilyIn (subtree leaf k (node_number h (base + k) y) 0) e.at
  families e x = elim (subtree_family leaf k (node_number h (base + k) y) 0 e x) [ inl t ↦ inl t.0 | inr w ↦ inr w ]

  leaf_entered : (j : ℕ) → j < 2 ^ k → Entered h (subtree leaf k (node_number h (base + k) y) 0) base (y * 2 ^ k + j) (leaf j)
  unfolding node
  leaf_entered j a =
      let e : k - k ≡ 0 = omega arith in
      let q : 0 * 2 ^ k + j ≡ j = omega arith in
      let lb : base + k - k ≡ base = omega arith in
      let lc : base + (k - k) ≡ base = omega arith in
      let S = subtree leaf k (node_number h (base + k) y) 0 in
      record {
        low = omega arith;
        inside = rw lc at (below_inside h base k y k j wi ti (omega arith) a);
        has =
            has_same S (node_number h (base + k) y * 2 ^ k + j) (node_number h base (y * 2 ^ k + j)) (node leaf (k - k) (0 * 2 ^ k + j)) (leaf j)
            (number_below h (base + k) y k j wi (omega arith) ∙ ap (λ (z : ℕ). node_number h z (y * 2 ^ k + j)) lb)
            (ap (λ (z : ℕ). node leaf z (0 * 2 ^ k + j)) e ∙ ap leaf q) (subtree_has leaf k (node_number h (base + k) y) 0 k j (omega arith) a);
      }

  -- what stands over leaves is an entry of their subtree,
  pub over_entered : (l i : ℕ) (v : List ℕ) → Over leaf base y k l i v → Entered h (subtree leaf k (node_number h (base + k) y) 0) l i v
  over_entered l i v (at_leaf j a) = leaf_entered j a
  over_entered l i v (above b c p q s t) =
      entered_parent h (node_number h (base + k) y) (subtree leaf k (node_number h (base + k) y) 0) subtree_consistent families b c p q
      (over_entered b (2 * c) p s) (over_entered b (2 * c + 1) q t)

  -- and every entry stands over them
  pub entry_over : (e : Entry) → In e (subtree leaf k (node_number h (base + k) y) 0) → Found h (Over leaf base y k) e.at e.hash
  entry_over e x = subtree_found (Over leaf base y k) above leaf base y k at_leaf h wi ti e x

  -- each position has one hash
  pub over_once : (l i : ℕ) (v w : List ℕ) → Over leaf base y k l i v → Over leaf base y k l i w → v ≡ w
  over_once l i v w a b =
      subtree_consistent (record { at = node_number h l i; hash = v }) (record { at = node_number h l i; hash = w }) (over_entered l i v a).has (over_entered l i w b).has refl

  -- the topmost has the node worked out
  pub over_top : (w : List ℕ) → Over leaf base y k (base + k) y w ↔ (w ≡ node leaf k 0)
  over_top w =
      let t = top_over (Over leaf base y k) above leaf base y k at_leaf in
      (λ a. over_once (base + k) y w (node leaf k 0) a t, λ e. rw e t)
