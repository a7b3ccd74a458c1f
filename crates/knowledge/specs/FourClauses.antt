-- The four clauses, as kd_held answers and by numbers of positions, are one.
-- Assumes nothing.
use Rattle.std.specs.Prelude.{◌≡◌, true, List, ◌↔◌, ℕ, suc, ◌+◌, ◌-◌, ◌*◌, ◌/◌, ◌%◌, ◌^◌, ◌≤◌, ◌<◌}
use Rattle.std.proofs.Common.{ap, ap₂, sym, ◌∙◌, subst, arith}
use Rattle.std.proofs.Math.Decide.{ℕ_discrete, dec_lt}
use Rattle.std.proofs.Math.Nat.{pow-zero}
use Rattle.std.proofs.Math.Pow.{pow_pos}
use Rattle.sha256.specs.Sha256.{pair_hash}
use Rattle.tree.specs.Geometry.{Padding, node_number}
use Rattle.tree.proofs.GeometryLaws.{node_number_root, node_number_left, node_number_right, node_number_parent, node_number_covers, layer_doubles}
use Rattle.tree.specs.Values.{pad_value}
use Rattle.cells.specs.Cells.{held_at, hash_at}
use Rattle.cells.specs.EntriesLaws.{Hold}
use Rattle.store.specs.Store.{facts_root, blocks_of, height_of, positions, Facts}
use Rattle.store.specs.StoreLaws.{usable_facts, tree_says, tree_number_lem}
use Rattle.settling.specs.Path.{sibling}
use Rattle.settling.specs.PathLaws.{sibling_below, sibling_even, sibling_odd, parent_even, parent_odd}
use Rattle.words.specs.Held.{Holds}
use Rattle.words.specs.FourClauses.{FourClauses}
use Rattle.knowledge.specs.RightPadding.{sibling_number}
use Rattle.knowledge.specs.Again.{what_is_held, held_usable}
use Rattle.knowledge.specs.ReadBack.{holds_at}
use Rattle.knowledge.specs.Invariant.{Family, Ours, Pair, family_pair}
use Rattle.knowledge.specs.Positions.{even_number}

module _ (s : List ℕ) (o : Ours s) where
  facts : Facts s
  facts = o.chained.facts

  root_held : Holds s (height_of s) 0 (facts_root s)
  root_held =
      let h = height_of s in
      let e = node_number_root (height_of s) in
      subst (Holds s h 0) (ap (hash_at s) e ∙ o.chained.root.1)
      (holds_at s (height_of s) 0 facts (omega arith) (pow_pos (height_of s - height_of s)) (ap (held_at s) e ∙ o.chained.root.0))

  below_root : (l i : ℕ) → l < height_of s → i < 2 ^ (height_of s - l) → 2 ≤ node_number (height_of s) l i
  unfolding node_number
  below_root l i a b = omega (arith, layer_doubles (height_of s) l a, pow_pos (height_of s - suc l))

  sibling_held : (l i : ℕ) (x : List ℕ) → l < height_of s → Holds s l i x → (y : List ℕ) × Holds s l (sibling i) y
  sibling_held l i x a k =
      let h = height_of s in
      let w = what_is_held s l i x facts k in
      let t = tree_says (height_of s) l i w.0 in
      let F = o.chained.family (node_number h l i) (below_root l i a t.1) (tree_number_lem (height_of s) l i w.0).1 w.1 in
      let even : 2 ^ (height_of s - l) % 2 ≡ 0 = omega (arith, layer_doubles (height_of s) l a) in (
        hash_at s (node_number h l (sibling i)),
        holds_at s l (sibling i) facts t.0 (sibling_below i (2 ^ (height_of s - l)) t.1 even) (ap (held_at s) (sym (sibling_number (height_of s) l i a)) ∙ F.beside),
      )

  pair_of : (p : ℕ) → 1 ≤ p → 2 * p < positions (height_of s) → held_at s (2 * p) ≡ true → Pair s p
  pair_of p a b k =
      let q : 2 * p / 2 ≡ p = omega arith in
      rw q at (family_pair s (2 * p) k (o.chained.family (2 * p) (omega arith) b k))

  parent_held : (l i : ℕ) (x y : List ℕ) → l < height_of s → Holds s l (2 * i) x → Holds s l (2 * i + 1) y → Holds s (suc l) i (pair_hash x y)
  parent_held l i x y a kx ky =
      let h = height_of s in
      let p = node_number (height_of s) (suc l) i in
      let wx = what_is_held s l (2 * i) x facts kx in
      let wy = what_is_held s l (2 * i + 1) y facts ky in
      let tx = tree_says (height_of s) l (2 * i) wx.0 in
      let ex = node_number_left (height_of s) l i a in
      let ey = node_number_right (height_of s) l i a in
      let low = below_root l (2 * i) a tx.1 in
      let one : 1 ≤ node_number (height_of s) (suc l) i = omega arith in
      let in_tree : 2 * node_number (height_of s) (suc l) i < positions (height_of s) = subst (λ (n : ℕ). n < positions h) ex (tree_number_lem (height_of s) l (2 * i) wx.0).1 in
      let P = pair_of p one in_tree (ap (held_at s) (sym ex) ∙ wx.1) in
      let d = layer_doubles (height_of s) l a in
      let inside : i < 2 ^ (height_of s - suc l) = omega (arith, tx.1) in
      subst (Holds s (suc l) i) (P.made ∙ ap₂ pair_hash (ap (hash_at s) (sym ex) ∙ wx.2) (ap (hash_at s) (sym ey) ∙ wy.2))
      (holds_at s (suc l) i facts a inside P.top)

  padding_right : (l i : ℕ) (v : List ℕ) → Holds s l i v → Padding (blocks_of s) l i → v ≡ pad_value l
  padding_right l i v k pd =
      let w = what_is_held s l i v facts k in
      let t = tree_says (height_of s) l i w.0 in
      sym w.2 ∙ o.padding l i t.0 t.1 pd w.1

-- ---- and back

module _ (s : List ℕ) (F : FourClauses s) where
  usable_here : Facts s
  usable_here = usable_facts s (held_usable s (height_of s) 0 F.root.given)

  root_at : Hold s 1 (facts_root s)
  root_at =
      let e = node_number_root (height_of s) in
      let w = what_is_held s (height_of s) 0 (facts_root s) usable_here F.root in
      (ap (held_at s) (sym e) ∙ w.1, ap (hash_at s) (sym e) ∙ w.2)

  family_at : (l i n : ℕ) → l < height_of s → i < 2 ^ (height_of s - l) → n ≡ node_number (height_of s) l i → held_at s n ≡ true → Family s n
  family_at l i n lt ins e k =
      let h = height_of s in
      let x = hash_at s n in
      let hx : Holds s l i (hash_at s n) = subst (Holds s l i) (ap (hash_at s) (sym e)) (holds_at s l i usable_here (omega arith) ins (rw e at k)) in
      let y = F.beside l i (hash_at s n) lt hx in
      let ws = what_is_held s l (sibling i) y.0 usable_here y.1 in
      let es : sibling n ≡ node_number (height_of s) l (sibling i) = ap sibling e ∙ sibling_number (height_of s) l i lt in
      let ep : n / 2 ≡ node_number (height_of s) (suc l) (i / 2) = ap (λ (q : ℕ). q / 2) e ∙ sym (node_number_parent (height_of s) l i lt) in
      let odd : n % 2 ≡ i % 2 = ap (λ (q : ℕ). q % 2) e ∙ even_number (height_of s) l i lt in
      let vs : hash_at s (sibling n) ≡ y.0 = ap (hash_at s) es ∙ ws.2 in
      elim (ℕ_discrete (i % 2) 0) [
        | yes z ↦
            let el : i ≡ 2 * (i / 2) = omega arith in
            let er : sibling i ≡ 2 * (i / 2) + 1 = omega (arith, sibling_even i z) in
            let up = F.above l (i / 2) x y.0 lt (subst (λ (q : ℕ). Holds s l q (hash_at s n)) el hx) (subst (λ (q : ℕ). Holds s l q y.0) er y.1) in
            let wu = what_is_held s (suc l) (i / 2) (pair_hash x y.0) usable_here up in
            record {
              beside = ap (held_at s) es ∙ ws.1;
              above = ap (held_at s) ep ∙ wu.1;
              hash = ap (hash_at s) ep ∙ wu.2 ∙ ap (pair_hash x) (sym vs) ∙ sym (parent_even n x (hash_at s (sibling n)) (odd ∙ z));
            }
        | no z ↦
            let el : sibling i ≡ 2 * (i / 2) = omega (arith, sibling_odd i z) in
            let er : i ≡ 2 * (i / 2) + 1 = omega arith in
            let up = F.above l (i / 2) y.0 x lt (subst (λ (q : ℕ). Holds s l q y.0) el y.1) (subst (λ (q : ℕ). Holds s l q (hash_at s n)) er hx) in
            let wu = what_is_held s (suc l) (i / 2) (pair_hash y.0 x) usable_here up in
            record {
              beside = ap (held_at s) es ∙ ws.1;
              above = ap (held_at s) ep ∙ wu.1;
              hash = ap (hash_at s) ep ∙ wu.2 ∙ ap (λ (v : List ℕ). pair_hash v x) (sym vs) ∙ sym (parent_odd n x (hash_at s (sibling n)) (λ q. z (sym odd ∙ q)));
            }
      ]

  families : (n : ℕ) → 2 ≤ n → n < positions (height_of s) → held_at s n ≡ true → Family s n
  unfolding positions
  families n two b k =
      let c = node_number_covers (height_of s) n (omega arith) b in
      family_at c.0 c.1 n (under c.0 c.1 c.2 c.3 c.4) c.3 c.4 k
    where
      under : (l i : ℕ) → l ≤ height_of s → i < 2 ^ (height_of s - l) → n ≡ node_number (height_of s) l i → l < height_of s
      under l i low ins e =
          elim (dec_lt l (height_of s)) [
            | yes y ↦ y
            | no x ↦
                let q : l ≡ height_of s = omega arith in
                let z : height_of s - height_of s ≡ 0 = omega arith in
                let w : i < 2 ^ (height_of s - height_of s) = rw q at ins in
                let i0 : i < 1 = rw (z, pow-zero 2) at w in
                let i1 : i ≡ 0 = omega arith in
                let one : n ≡ 1 = e ∙ rw (q, i1) (node_number_root (height_of s)) in
                let f : ⊥ = omega arith in
                absurd f
          ]

  by_numbers : Ours s
  by_numbers =
      record {
        chained = record { facts = usable_here; root = root_at; family = families };
        padding = λ l i low ins pd k. F.padding l i (hash_at s (node_number (height_of s) l i)) (holds_at s l i usable_here low ins k) pd;
      }

-- THE FOUR CLAUSES as kd_held answers, and by numbers of positions, say the same
pub four_clauses_exactly : (s : List ℕ) → FourClauses s ↔ Ours s
four_clauses_exactly s = (
  by_numbers s,
  λ o. record { root = root_held s o; beside = sibling_held s o; above = parent_held s o; padding = padding_right s o },
)
