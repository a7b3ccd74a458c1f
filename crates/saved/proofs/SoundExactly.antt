-- THE LOADER'S CONDITION: the last record is the root with the opening's value and every pair is claimed by its parent exactly if the positions
-- that the bytes name meet the clauses. One way goes by the pairs that were claimed, the other by the order of the records.
-- Assumes nothing.
use Rattle.std.specs.Prelude.{◌≡◌, refl, true, ◌&&◌, List, ◌↔◌, ◌⊎◌, ℕ, zero, suc, ◌+◌, ◌-◌, ◌*◌, ◌/◌, ◌%◌, ◌^◌, ◌≤◌, ◌<◌, ltb}
use Rattle.std.proofs.Common.{ap, ap₂, sym, ◌∙◌, subst, inl, inr, arith, pow_pos, eq-eqb, eqb-true, lt-ltb, ltb-true}
use Rattle.std.proofs.Math.Bool.{and-eq-true_iff}
use Rattle.std.proofs.Math.Decide.{ℕ_discrete, dec_lt}
use Rattle.std.proofs.Math.Dec.{eqb}
use Rattle.octets.specs.Octets.{same}
use Rattle.octets.specs.OctetsLaws.{same_true, same_eq}
use Rattle.sha256.specs.Sha256.{pair_hash}
use Rattle.tree.specs.Geometry.{Padding}
use Rattle.tree.proofs.GeometryLaws.{layer_doubles}
use Rattle.tree.specs.Values.{pad_value}
use Rattle.settling.specs.Path.{sibling}
use Rattle.settling.specs.PathLaws.{sibling_even, sibling_odd}
use Rattle.saved.specs.Clauses.{Clauses}
use Rattle.saved.proofs.ClausesLaws.{root_alone}
use Rattle.saved.specs.Form.{root_in, place_count, layer_in, index_in, hash_in, rank, rank_in, places_good, Placed}
use Rattle.saved.specs.Saved.{pad_right, family_at, claimed_by, root_right, chained}
use Rattle.saved.proofs.RankLaws.{rank_most, rank_root, rank_below, rank_parent, rank_next, rank_parity}
use Rattle.saved.proofs.ClaimedLaws.{claimed_even, claimed_each, all_claimed}
use Rattle.saved.proofs.SoundLaws.{PlaceIn, place_at, place_says, pad_says, pad_from, FamilyIn, family_says, family_from, first_not_padding, rises, one_record, next_record, record_at, not_root}

-- the last record is the root
pub record RootLast (h : ℕ) (b : List ℕ) : Type 0 where
  pub some : 0 < place_count b
  pub rank : rank_in h b (place_count b - 1) + 2 ≡ 2 * 2 ^ h
  pub hash : hash_in b (place_count b - 1) ≡ root_in b

module _ (h : ℕ) (b : List ℕ) where
  pub root_says : root_right h b ≡ true → RootLast h b
  unfolding root_right
  root_says g =
      let a = (and-eq-true_iff (ltb 0 (place_count b) && eqb (rank_in h b (place_count b - 1) + 2) (2 * 2 ^ h)) (same (hash_in b (place_count b - 1)) (root_in b))).0 g in
      let d = (and-eq-true_iff (ltb 0 (place_count b)) (eqb (rank_in h b (place_count b - 1) + 2) (2 * 2 ^ h))).0 a.0 in
      record {
        some = ltb-true 0 (place_count b) d.0;
        rank = eqb-true (rank_in h b (place_count b - 1) + 2) (2 * 2 ^ h) d.1;
        hash = same_true (hash_in b (place_count b - 1)) (root_in b) a.1;
      }

  pub root_from : RootLast h b → root_right h b ≡ true
  unfolding root_right
  root_from R =
      let x = lt-ltb 0 (place_count b) R.some in
      let y = eq-eqb (rank_in h b (place_count b - 1) + 2) (2 * 2 ^ h) R.rank in
      let z = same_eq (hash_in b (place_count b - 1)) (root_in b) R.hash in
      (and-eq-true_iff (ltb 0 (place_count b) && eqb (rank_in h b (place_count b - 1) + 2) (2 * 2 ^ h)) (same (hash_in b (place_count b - 1)) (root_in b))).1
      ((and-eq-true_iff (ltb 0 (place_count b)) (eqb (rank_in h b (place_count b - 1) + 2) (2 * 2 ^ h))).1 (x, y), z)

module _ (h c : ℕ) (b : List ℕ) (some : 1 ≤ c) (G : places_good h b (place_count b) ≡ true) where
  at : (k : ℕ) → k < place_count b → PlaceIn h b k
  at k l = place_says h b k (place_at h b (place_count b) G k l)

  last_is_root : RootLast h b → (layer_in b (place_count b - 1) ≡ h) × (index_in b (place_count b - 1) ≡ 0)
  last_is_root R =
      let z : 0 < 2 ^ (h - h) = pow_pos (h - h) in
      record_at h c b (place_count b) G (place_count b - 1) h 0 (omega (arith, R.some)) (omega arith) z (omega (arith, R.rank, rank_root h))

  -- ---- claimed, so the clauses

  module _ (R : RootLast h b) (C : claimed_by (family_at h c b) (place_count b) + 1 ≡ place_count b) where
    odd : place_count b % 2 ≡ 1
    odd = omega (arith, claimed_even (family_at h c b) (place_count b))

    family_of : (m : ℕ) → m % 2 ≡ 0 → m + 1 < place_count b → (j : ℕ) × (j < place_count b) × FamilyIn h c b m j
    family_of m z l =
        let w = claimed_each (family_at h c b) (place_count b) m z (omega arith) in
        (w.0, w.1, family_says h c b m w.0 w.2)

    -- below the root every record is the left or the right of a pair
    record Half (k : ℕ) : Type 0 where
      m : ℕ
      even : m % 2 ≡ 0
      inside : m + 1 < place_count b
      half : (k ≡ m) ⊎ (k ≡ m + 1)

    half_of : (k : ℕ) → k < place_count b → layer_in b k < h → Half k
    half_of k l low =
        let last = last_is_root R in
        let ne : k ≡ place_count b - 1 → ⊥ = λ e. let w : layer_in b k ≡ layer_in b (place_count b - 1) = ap (layer_in b) e in omega (arith, last.0) in
        let lt : k + 1 < place_count b = elim (ℕ_discrete (k + 1) (place_count b)) [ yes e ↦ absurd (ne (omega arith)) | no x ↦ omega arith ] in
        elim (ℕ_discrete (k % 2) 0) [
          | yes z ↦ record { m = k; even = z; inside = lt; half = inl refl }
          | no z ↦ record { m = k - 1; even = omega arith; inside = omega (arith, odd); half = inr (omega arith) }
        ]

    -- a pair's left record has an even rank
    left_even : (m j : ℕ) → FamilyIn h c b m j → rank_in h b m % 2 ≡ 0
    left_even m j F = omega (arith, F.parent)

    beside : (l i : ℕ) (x : List ℕ) → l < h → Placed b (place_count b) l i x → (y : List ℕ) × Placed b (place_count b) l (sibling i) y
    beside l i x lt X =
        let k = X.k in
        let H = half_of X.k X.low (rw X.layer lt) in
        let F = family_of H.m H.even H.inside in
        let ev = left_even H.m F.0 F.2 in
        let rk : rank_in h b X.k ≡ rank h l i = ap₂ (λ (u w : ℕ). rank h u w) X.layer X.index in
        let ins : i < 2 ^ (h - l) = rw (X.layer, X.index) at (at X.k X.low).inside in
        let par = rank_parity h l i in
        elim H.half [
          | inl e ↦
              let q : rank_in h b X.k ≡ rank_in h b H.m = ap (rank_in h b) e in
              let z : i % 2 ≡ 0 = omega arith in
              let w = record_at h c b (place_count b) G (H.m + 1) l (i + 1) H.inside (omega arith) (omega (arith, layer_doubles h l lt)) (omega (arith, F.2.beside, rank_next h l i)) in
              (hash_in b (H.m + 1), record { k = H.m + 1; low = H.inside; layer = w.0; index = w.1 ∙ sym (sibling_even i z); hash = refl })
          | inr e ↦
              let q : rank_in h b X.k ≡ rank_in h b (H.m + 1) = ap (rank_in h b) e in
              let bs = F.2.beside in
              let z : i % 2 ≡ 0 → ⊥ = λ n. omega arith in
              let i1 : i - 1 + 1 ≡ i = omega arith in
              let up : rank h l i ≡ rank h l (i - 1) + 1 = ap (rank h l) (sym i1) ∙ rank_next h l (i - 1) in
              let w = record_at h c b (place_count b) G H.m l (i - 1) (omega (arith, H.inside)) (omega arith) (omega arith) (omega arith) in
              (hash_in b H.m, record { k = H.m; low = omega (arith, H.inside); layer = w.0; index = w.1 ∙ sym (sibling_odd i z); hash = refl })
        ]

    above : (l i : ℕ) (x y : List ℕ) → l < h → Placed b (place_count b) l (2 * i) x → Placed b (place_count b) l (2 * i + 1) y → Placed b (place_count b) (suc l) i (pair_hash x y)
    above l i x y lt X Y =
        let H = half_of X.k X.low (rw X.layer lt) in
        let F = family_of H.m H.even H.inside in
        let ev = left_even H.m F.0 F.2 in
        let rx : rank_in h b X.k ≡ rank h l (2 * i) = ap₂ (λ (u w : ℕ). rank h u w) X.layer X.index in
        let ry : rank_in h b Y.k ≡ rank h l (2 * i + 1) = ap₂ (λ (u w : ℕ). rank h u w) Y.layer Y.index in
        let ins : 2 * i < 2 ^ (h - l) = rw (X.layer, X.index) at (at X.k X.low).inside in
        let par = rank_parity h l (2 * i) in
        let bs = F.2.beside in
        let e : X.k ≡ H.m =
        elim H.half [
          | inl q ↦ q
          | inr q ↦ let w : rank_in h b X.k ≡ rank_in h b (H.m + 1) = ap (rank_in h b) q in absurd (omega arith)
        ] in
        let re : rank_in h b X.k ≡ rank_in h b H.m = ap (rank_in h b) e in
        let f : H.m + 1 ≡ Y.k = one_record h c b (place_count b) G (H.m + 1) Y.k H.inside Y.low (omega (arith, rank_next h l (2 * i))) in
        let w = record_at h c b (place_count b) G F.0 (suc l) i F.1 lt (omega (arith, layer_doubles h l lt)) (omega (arith, F.2.parent, rank_parent h l i lt)) in
        let hx : hash_in b H.m ≡ x = ap (hash_in b) (sym e) ∙ X.hash in
        let hy : hash_in b (H.m + 1) ≡ y = ap (hash_in b) f ∙ Y.hash in
        record { k = F.0; low = F.1; layer = w.0; index = w.1; hash = sym F.2.made ∙ ap₂ pair_hash hx hy }

    padding : (l i : ℕ) (v : List ℕ) → Placed b (place_count b) l i v → Padding c l i → v ≡ pad_value l
    padding l i v X pd =
        let here : Padding c (layer_in b X.k) (index_in b X.k) = rw (X.layer, X.index) pd in
        elim (dec_lt (layer_in b X.k) h) [
          | yes lt ↦
              let H = half_of X.k X.low lt in
              let F = (family_of H.m H.even H.inside).2 in
              let right : pad_right c b X.k ≡ true =
              elim H.half [ inl e ↦ rw e F.left_pads | inr e ↦ rw e F.right_pads ] in
              sym X.hash ∙ pad_says c b X.k right here ∙ ap pad_value X.layer
          | no n ↦
              let a = at X.k X.low in
              let e : layer_in b X.k ≡ h = omega (arith, a.low) in
              let z : index_in b X.k ≡ 0 = root_alone h (index_in b X.k) (rw e at a.inside) in
              absurd (first_not_padding c (layer_in b X.k) (index_in b X.k) some z here)
        ]

    pub claimed_clauses : Clauses h c (root_in b) (Placed b (place_count b))
    claimed_clauses =
        let w = last_is_root R in
        record {
          root = record { k = place_count b - 1; low = omega (arith, R.some); layer = w.0; index = w.1; hash = R.hash };
          beside = beside;
          above = above;
          padding = padding;
        }

  -- ---- the clauses, so claimed

  -- a record that names the root with the opening's value is the last one
  module _ (X : Placed b (place_count b) h 0 (root_in b)) where
    root_rank : rank_in h b X.k + 2 ≡ 2 * 2 ^ h
    root_rank = let e : rank_in h b X.k ≡ rank h h 0 = ap₂ (λ (u w : ℕ). rank h u w) X.layer X.index in omega (arith, rank_root h)

    root_place : X.k ≡ place_count b - 1
    root_place =
        let l = X.low in
        elim (ℕ_discrete X.k (place_count b - 1)) [
          | yes e ↦ e
          | no ne ↦
              let last = at (place_count b - 1) (omega arith) in
              absurd (omega (arith, root_rank, rises h c b (place_count b) G X.k (place_count b - 1) (omega arith) (omega arith), rank_most h (layer_in b (place_count b - 1)) (index_in b (place_count b - 1)) last.inside))
        ]

    root_last : RootLast h b
    root_last =
        record {
          some = omega (arith, X.low);
          rank = subst (λ (k : ℕ). rank_in h b k + 2 ≡ 2 * 2 ^ h) root_place root_rank;
          hash = ap (hash_in b) (sym root_place) ∙ X.hash;
        }

  -- THE ROOT IS NAMED with the opening's value exactly if the last record says so
  pub root_exactly : (root_right h b ≡ true) ↔ Placed b (place_count b) h 0 (root_in b)
  root_exactly = (
    λ g. let R = root_says h b g in let w = last_is_root R in record { k = place_count b - 1; low = omega (arith, R.some); layer = w.0; index = w.1; hash = R.hash },
    λ X. root_from h b (root_last X),
  )

  module _ (K : Clauses h c (root_in b) (Placed b (place_count b))) where
    pub clauses_root : RootLast h b
    clauses_root = root_last K.root

    -- record k is a left child, and the next one its sibling
    record Pair (k : ℕ) : Type 0 where
      even : rank_in h b k % 2 ≡ 0
      next : rank_in h b (k + 1) ≡ rank_in h b k + 1

    here : (k : ℕ) → k < place_count b → Placed b (place_count b) (layer_in b k) (index_in b k) (hash_in b k)
    here k l = record { k = k; low = l; layer = refl; index = refl; hash = refl }

    -- the sibling's rank
    sibling_rank : (k : ℕ) → (l : k + 1 < place_count b) → (m : ℕ) × (m < place_count b) × (((rank_in h b k % 2 ≡ 0) × (rank_in h b m ≡ rank_in h b k + 1)) ⊎ ((rank_in h b k % 2 ≡ 1) × (rank_in h b k ≡ rank_in h b m + 1)))
    sibling_rank k l =
        let S = (K.beside (layer_in b k) (index_in b k) (hash_in b k) (not_root h c b (place_count b) G k l) (here k (omega arith))).1 in
        let rs : rank_in h b S.k ≡ rank h (layer_in b k) (sibling (index_in b k)) = ap₂ (λ (u w : ℕ). rank h u w) S.layer S.index in
        let par = rank_parity h (layer_in b k) (index_in b k) in
        elim (ℕ_discrete (index_in b k % 2) 0) [
          | yes z ↦
              let e : rank h (layer_in b k) (sibling (index_in b k)) ≡ rank_in h b k + 1 = ap (rank h (layer_in b k)) (sibling_even (index_in b k) z) ∙ rank_next h (layer_in b k) (index_in b k) in
              (S.k, S.low, inl (omega arith, rs ∙ e))
          | no z ↦
              let i1 : index_in b k ≡ index_in b k - 1 + 1 = omega arith in
              let e : rank_in h b k ≡ rank h (layer_in b k) (index_in b k - 1) + 1 = ap (rank h (layer_in b k)) i1 ∙ rank_next h (layer_in b k) (index_in b k - 1) in
              let f : rank h (layer_in b k) (sibling (index_in b k)) ≡ rank h (layer_in b k) (index_in b k - 1) = ap (rank h (layer_in b k)) (sibling_odd (index_in b k) z) in
              (S.k, S.low, inr (omega arith, omega arith))
        ]

    pair_at : (m : ℕ) → 2 * m + 1 < place_count b → Pair (2 * m)
    pair_at zero l = by (sibling_rank (2 * 0) l)
      where
        by : (m : ℕ) × (m < place_count b) × (((rank_in h b (2 * 0) % 2 ≡ 0) × (rank_in h b m ≡ rank_in h b (2 * 0) + 1)) ⊎ ((rank_in h b (2 * 0) % 2 ≡ 1) × (rank_in h b (2 * 0) ≡ rank_in h b m + 1))) → Pair (2 * 0)
        by (m, ml, inl w) =
            let e = next_record h c b (place_count b) G (2 * 0) m (omega arith) ml w.1 in
            record { even = w.0; next = ap (rank_in h b) (sym e) ∙ w.1 }
        by (m, ml, inr w) = let e = next_record h c b (place_count b) G m (2 * 0) ml (omega arith) w.1 in absurd (omega arith)
    pair_at (suc q) l = by (sibling_rank (2 * suc q) l) (pair_at q (omega arith))
      where
        by : (m : ℕ) × (m < place_count b) × (((rank_in h b (2 * suc q) % 2 ≡ 0) × (rank_in h b m ≡ rank_in h b (2 * suc q) + 1)) ⊎ ((rank_in h b (2 * suc q) % 2 ≡ 1) × (rank_in h b (2 * suc q) ≡ rank_in h b m + 1)))
            → Pair (2 * q) → Pair (2 * suc q)
        by (m, ml, inl w) B =
            let e = next_record h c b (place_count b) G (2 * suc q) m (omega arith) ml w.1 in
            record { even = w.0; next = ap (rank_in h b) (sym e) ∙ w.1 }
        by (m, ml, inr w) B =
            let e = next_record h c b (place_count b) G m (2 * suc q) ml (omega arith) w.1 in
            let f : m ≡ 2 * q + 1 = omega arith in
            let r : rank_in h b m ≡ rank_in h b (2 * q + 1) = ap (rank_in h b) f in
            absurd (omega (arith, B.next, B.even, w.0, w.1))

    odd_count : place_count b % 2 ≡ 1
    odd_count =
        let R = clauses_root in
        elim (ℕ_discrete (place_count b % 2) 1) [
          | yes e ↦ e
          | no ne ↦
              let q = (place_count b - 2) / 2 in
              let e : 2 * ((place_count b - 2) / 2) + 1 ≡ place_count b - 1 = omega (arith, R.some) in
              let B = pair_at ((place_count b - 2) / 2) (omega (arith, R.some)) in
              let r : rank_in h b (2 * ((place_count b - 2) / 2) + 1) ≡ rank_in h b (place_count b - 1) = ap (rank_in h b) e in
              absurd (omega (arith, B.next, B.even, R.rank))
        ]

    parent_of : (k : ℕ) → k % 2 ≡ 0 → k + 1 < place_count b → (j : ℕ) × (j < place_count b) × (family_at h c b k j ≡ true)
    parent_of k z l =
        let e : 2 * (k / 2) ≡ k = omega arith in
        let B : Pair k = subst (λ (m : ℕ). Pair m) e (pair_at (k / 2) (omega arith)) in
        let low = not_root h c b (place_count b) G k l in
        let ly = layer_in b k in
        let ix = index_in b k in
        let a = at k (omega arith) in
        let iz : index_in b k % 2 ≡ 0 = omega (arith, rank_parity h (layer_in b k) (index_in b k), B.even) in
        let ih : index_in b k ≡ 2 * (index_in b k / 2) = omega arith in
        let X : Placed b (place_count b) (layer_in b k) (2 * (index_in b k / 2)) (hash_in b k) = record { k = k; low = omega arith; layer = refl; index = ih; hash = refl } in
        let ins : 2 * (index_in b k / 2) + 1 < 2 ^ (h - layer_in b k) = omega (arith, a.inside, layer_doubles h (layer_in b k) low) in
        let rx : rank_in h b k ≡ rank h (layer_in b k) (2 * (index_in b k / 2)) = ap (rank h (layer_in b k)) ih in
        let w = record_at h c b (place_count b) G (k + 1) (layer_in b k) (2 * (index_in b k / 2) + 1) l a.low ins (omega (arith, B.next, rank_next h (layer_in b k) (2 * (index_in b k / 2)))) in
        let Y : Placed b (place_count b) (layer_in b k) (2 * (index_in b k / 2) + 1) (hash_in b (k + 1)) = record { k = k + 1; low = l; layer = w.0; index = w.1; hash = refl } in
        let J = K.above (layer_in b k) (index_in b k / 2) (hash_in b k) (hash_in b (k + 1)) low X Y in
        let rj : rank_in h b J.k ≡ rank h (suc (layer_in b k)) (index_in b k / 2) = ap₂ (λ (u v : ℕ). rank h u v) J.layer J.index in
        let up : rank_in h b k + 2 * 2 ^ h ≡ 2 * rank_in h b J.k = omega (arith, rank_parent h (layer_in b k) (index_in b k / 2) low) in
        let four = rank_below h (layer_in b k) (index_in b k) low a.inside iz in
        let nx = B.next in
        let ahead : k + 1 < J.k =
        elim (dec_lt (k + 1) J.k) [
          | yes y ↦ y
          | no n ↦ elim (ℕ_discrete J.k (k + 1)) [
            | yes q ↦ let r : rank_in h b J.k ≡ rank_in h b (k + 1) = ap (rank_in h b) q in absurd (omega arith)
            | no ne ↦ absurd (omega (arith, rises h c b (place_count b) G J.k (k + 1) (omega arith) l))
          ]
        ] in (
          J.k,
          J.low,
          family_from h c b k J.k
              (record {
                before = ahead;
                parent = up;
                beside = nx;
                left_pads = pad_from c b k (λ pd. K.padding (layer_in b k) (index_in b k) (hash_in b k) (here k (omega arith)) pd);
                right_pads = pad_from c b (k + 1) (λ pd. K.padding (layer_in b (k + 1)) (index_in b (k + 1)) (hash_in b (k + 1)) (here (k + 1) l) pd);
                made = sym J.hash;
              }),
        )

    pub clauses_claimed : claimed_by (family_at h c b) (place_count b) + 1 ≡ place_count b
    clauses_claimed =
        all_claimed (family_at h c b) (place_count b) (2 ^ h) (rank_in h b) (rises h c b (place_count b) G) odd_count
        (λ k j g. let F = family_says h c b k j g in (F.before, F.parent)) parent_of

  -- ACCEPTED EXACTLY WHEN
  pub sound_exactly : ((root_right h b ≡ true) × (chained h c b ≡ true)) ↔ Clauses h c (root_in b) (Placed b (place_count b))
  unfolding chained
  sound_exactly = (
    λ w. claimed_clauses (root_says h b w.0) (eqb-true (claimed_by (family_at h c b) (place_count b) + 1) (place_count b) w.1),
    λ K. (root_from h b (clauses_root K), eq-eqb (claimed_by (family_at h c b) (place_count b) + 1) (place_count b) (clauses_claimed K)),
  )
