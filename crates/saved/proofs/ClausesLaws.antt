-- What the repair keeps is the largest part of a set that may be loaded; a set may be loaded exactly if all of it is kept.
-- Assumes nothing.
use Rattle.std.specs.Prelude.{◌≡◌, refl, List, ◌↔◌, ℕ, zero, suc, ◌+◌, ◌-◌, ◌*◌, ◌/◌, ◌%◌, ◌^◌, ◌≤◌, ◌<◌}
use Rattle.std.proofs.Common.{ap, ◌∙◌, subst, inl, inr, arith}
use Rattle.std.proofs.Math.Decide.{ℕ_discrete}
use Rattle.std.proofs.Math.Nat.{pow-zero}
use Rattle.sha256.specs.Sha256.{pair_hash}
use Rattle.tree.specs.Geometry.{Padding}
use Rattle.tree.specs.Values.{pad_value}
use Rattle.settling.specs.Path.{sibling}
use Rattle.settling.specs.PathLaws.{sibling_even, sibling_odd}
use Rattle.saved.specs.Clauses.{Hashes, Clauses, InTree, Within, Kept, top, child}

-- the only position of layer h is number 0
pub root_alone : (h i : ℕ) → i < 2 ^ (h - h) → i ≡ 0
root_alone h i l =
    let z : h - h ≡ 0 = omega arith in
    let w : i < 1 = rw (z, pow-zero 2) at l in
    omega arith

module _ (h b : ℕ) (root : List ℕ) (R : Hashes) where
  -- what is kept is in the set,
  pub kept_within : Within (Kept h b root R) R
  kept_within l j v (top p q r x) = rw (p, q, r) x
  kept_within l j v (child i x y lt C K (inl w)) = rw (w.0, w.1) C.left
  kept_within l j v (child i x y lt C K (inr w)) = rw (w.0, w.1) C.right

  module _ (T : InTree h R) where
    kept_beside : (l j : ℕ) (v : List ℕ) → l < h → Kept h b root R l j v → (y : List ℕ) × Kept h b root R l (sibling j) y
    kept_beside l j v lt (top p q r x) = absurd (omega arith)
    kept_beside l j v lt (child i x y l2 C K (inl w)) =
        let e : sibling j ≡ 2 * i + 1 = sibling_even j (omega arith) ∙ ap (λ (n : ℕ). n + 1) w.0 in
        (y, child i x y l2 C K (inr (e, refl)))
    kept_beside l j v lt (child i x y l2 C K (inr w)) =
        let s = sibling_odd j (λ z. omega arith) in
        let e : sibling j ≡ 2 * i = omega arith in
        (x, child i x y l2 C K (inl (e, refl)))

    kept_above : (l i : ℕ) (x y : List ℕ) → l < h → Kept h b root R l (2 * i) x → Kept h b root R l (2 * i + 1) y → Kept h b root R (suc l) i (pair_hash x y)
    kept_above l i x y lt (top p q r u) c = absurd (omega arith)
    kept_above l i x y lt (child k x2 y2 l2 C K (inl w)) c =
        let e : k ≡ i = omega (arith, w.0) in
        let right : R l (2 * i + 1) y2 = rw e at C.right in
        let f : y2 ≡ y = T.one l (2 * i + 1) y2 y right (kept_within l (2 * i + 1) y c) in
        rw (w.1, ← f, ← e) K
    kept_above l i x y lt (child k x2 y2 l2 C K (inr w)) c = absurd (omega (arith, w.0))

    kept_padding : (l j : ℕ) (v : List ℕ) → Kept h b root R l j v → 1 ≤ b → Padding b l j → v ≡ pad_value l
    unfolding Padding
    kept_padding l j v (top p q r x) some pd = let w : j * 2 ^ l ≡ 0 = rw q (omega arith) in absurd (omega arith)
    kept_padding l j v (child i x y lt C K (inl w)) some pd = w.1 ∙ C.left_pads (unfold Padding in rw w.0 at pd)
    kept_padding l j v (child i x y lt C K (inr w)) some pd = w.1 ∙ C.right_pads (unfold Padding in rw w.0 at pd)

    -- it may be loaded, if the root is there with the opening's value,
    pub kept_clauses : 1 ≤ b → R h 0 root → Clauses h b root (Kept h b root R)
    kept_clauses some r =
        record {
          root = top refl refl refl r;
          beside = kept_beside;
          above = kept_above;
          padding = λ l i v k pd. kept_padding l i v k some pd;
        }

    -- and every part of the set that may be loaded is kept: what is kept is the largest such part
    module _ (S : Hashes) (part : Within S R) (C : Clauses h b root S) where
      climb : (d l j : ℕ) (v : List ℕ) → l + d ≡ h → S l j v → Kept h b root R l j v
      climb zero l j v e s =
          let p : l ≡ h = omega arith in
          let q : j ≡ 0 = root_alone h j (rw p at (T.inside l j v (part l j v s))) in
          let s2 : S h 0 v = rw (p, q) at s in
          let r = C.root in
          top p q (T.one h 0 v root (part h 0 v s2) (part h 0 root r)) (part h 0 root r)
      climb (suc d) l j v e s =
          let lt : l < h = omega arith in
          let y = C.beside l j v lt s in
          elim (ℕ_discrete (j % 2) 0) [
            | yes z ↦
                let p : j ≡ 2 * (j / 2) = omega arith in
                let q : sibling j ≡ 2 * (j / 2) + 1 = omega (arith, sibling_even j z) in
                let sl : S l (2 * (j / 2)) v = subst (λ (n : ℕ). S l n v) p s in
                let sr : S l (2 * (j / 2) + 1) y.0 = subst (λ (n : ℕ). S l n y.0) q y.1 in
                child (j / 2) v y.0 lt
                (record {
                  left = part l (2 * (j / 2)) v sl;
                  right = part l (2 * (j / 2) + 1) y.0 sr;
                  left_pads = C.padding l (2 * (j / 2)) v sl;
                  right_pads = C.padding l (2 * (j / 2) + 1) y.0 sr;
                })
                (climb d (suc l) (j / 2) (pair_hash v y.0) (omega arith) (C.above l (j / 2) v y.0 lt sl sr)) (inl (p, refl))
            | no z ↦
                let p : sibling j ≡ 2 * (j / 2) = omega (arith, sibling_odd j z) in
                let q : j ≡ 2 * (j / 2) + 1 = omega arith in
                let sl : S l (2 * (j / 2)) y.0 = subst (λ (n : ℕ). S l n y.0) p y.1 in
                let sr : S l (2 * (j / 2) + 1) v = subst (λ (n : ℕ). S l n v) q s in
                child (j / 2) y.0 v lt
                (record {
                  left = part l (2 * (j / 2)) y.0 sl;
                  right = part l (2 * (j / 2) + 1) v sr;
                  left_pads = C.padding l (2 * (j / 2)) y.0 sl;
                  right_pads = C.padding l (2 * (j / 2) + 1) v sr;
                })
                (climb d (suc l) (j / 2) (pair_hash y.0 v) (omega arith) (C.above l (j / 2) y.0 v lt sl sr)) (inr (q, refl))
          ]

      pub kept_largest : Within S (Kept h b root R)
      kept_largest l j v s = climb (h - l) l j v (omega (arith, T.low l j v (part l j v s))) s

    -- A SET MAY BE LOADED exactly if its root is right and the repair drops nothing of it
    pub loads_when_all_kept : 1 ≤ b → Clauses h b root R ↔ (R h 0 root × Within R (Kept h b root R))
    loads_when_all_kept some = (λ C. (C.root, kept_largest R (λ l j v x. x) C), λ w. by w.0 w.1)
      where
        by : R h 0 root → Within R (Kept h b root R) → Clauses h b root R
        by r k =
            let K = kept_clauses some r in
            record {
              root = r;
              beside = λ l i x lt u. let y = K.beside l i x lt (k l i x u) in (y.0, kept_within l (sibling i) y.0 y.1);
              above = λ l i x y lt u w. kept_within (suc l) i (pair_hash x y) (K.above l i x y lt (k l (2 * i) x u) (k l (2 * i + 1) y w));
              padding = λ l i v u pd. K.padding l i v (k l i v u) pd;
            }
