-- Bytes of the form are loaded exactly if the positions that they name meet the clauses.
-- Assumes nothing.
use Rattle.std.specs.Prelude.{◌≡◌, Bool, true, ◌&&◌, List, ℕ, zero, suc, ◌+◌, ◌-◌, ◌*◌, ◌^◌, ◌≤◌, ◌<◌, get_or, eqb, leb, ltb}
use Rattle.std.proofs.Common.{ap, ap₂, sym, ◌∙◌, arith, eq-eqb, eqb-true, lt-ltb, ltb-true, le-ltb, leb-true}
use Rattle.std.proofs.Math.Bool.{and-eq-true_iff}
use Rattle.std.proofs.Math.Decide.{ℕ_discrete, dec_lt}
use Rattle.octets.specs.Octets.{same}
use Rattle.octets.specs.OctetsLaws.{same_true, same_eq}
use Rattle.sha256.specs.Sha256.{pair_hash}
use Rattle.tree.specs.Geometry.{Padding, covering}
use Rattle.tree.proofs.GeometryLaws.{covering_until_padding, padding_from_covering}
use Rattle.tree.specs.Values.{pad_value}
use Rattle.store.specs.Store.{in_tree}
use Rattle.store.specs.StoreLaws.{tree_says}
use Rattle.saved.specs.Clauses.{InTree}
use Rattle.saved.proofs.ClausesLaws.{root_alone}
use Rattle.saved.specs.Form.{layer_in, index_in, hash_in, rank, rank_in, next_rank, place_good, places_good, Placed, blocks_in, height_in, formed}
use Rattle.saved.specs.Saved.{pad_right, children_of, made_by, family_at, root_right, chained, sound, rooted}
use Rattle.saved.proofs.RankLaws.{rank_most, rank_root, rank_distinct, rank_after}

-- ---- what the tests say

pub both : (x y : Bool) → (x && y) ≡ true → (x ≡ true) × (y ≡ true)
both x y e = (and-eq-true_iff x y).0 e

pub and_two : (x y : Bool) → x ≡ true → y ≡ true → (x && y) ≡ true
and_two x y e f = (and-eq-true_iff x y).1 (e, f)

-- sound bytes have the form, and so have those whose root is right
pub sound_formed : (b : List ℕ) → sound b ≡ true → formed b ≡ true
unfolding sound
sound_formed b g = (both (formed b) (root_right (height_in b) b) (both (formed b && root_right (height_in b) b) (chained (height_in b) (blocks_in b) b) g).0).0

pub rooted_formed : (b : List ℕ) → rooted b ≡ true → formed b ≡ true
unfolding rooted
rooted_formed b g = (both (formed b) (root_right (height_in b) b) g).0

pub place_at : (h : ℕ) (b : List ℕ) (p : ℕ) → places_good h b p ≡ true → (k : ℕ) → k < p → place_good h b k ≡ true
unfolding places_good
place_at h b zero g k l = absurd (omega arith)
place_at h b (suc p) g k l =
    let w = both (places_good h b p) (place_good h b p) g in
    elim (ℕ_discrete k p) [ yes e ↦ rw e w.1 | no ne ↦ place_at h b p w.0 k (omega arith) ]

pub record PlaceIn (h : ℕ) (b : List ℕ) (k : ℕ) : Type 0 where
  pub kind : get_or b (45 + 41 * k) 0 ≡ 2
  pub low : layer_in b k ≤ h
  pub inside : index_in b k < 2 ^ (h - layer_in b k)
  pub from : next_rank h b k ≤ rank_in h b k

pub place_says : (h : ℕ) (b : List ℕ) (k : ℕ) → place_good h b k ≡ true → PlaceIn h b k
unfolding place_good
place_says h b k g =
    let a = both (eqb (get_or b (45 + 41 * k) 0) 2 && in_tree h (layer_in b k) (index_in b k)) (leb (next_rank h b k) (rank_in h b k)) g in
    let c = both (eqb (get_or b (45 + 41 * k) 0) 2) (in_tree h (layer_in b k) (index_in b k)) a.0 in
    let t = tree_says h (layer_in b k) (index_in b k) c.1 in
    record {
      kind = eqb-true (get_or b (45 + 41 * k) 0) 2 c.0;
      low = t.0;
      inside = t.1;
      from = leb-true (next_rank h b k) (rank_in h b k) a.1;
    }

pub pad_says : (c : ℕ) (b : List ℕ) (k : ℕ) → pad_right c b k ≡ true → Padding c (layer_in b k) (index_in b k) → hash_in b k ≡ pad_value (layer_in b k)
unfolding pad_right
pad_says c b k g pd =
    let e = le-ltb (index_in b k) (covering c (layer_in b k)) (covering_until_padding c (layer_in b k) (index_in b k) pd) in
    let w : same (hash_in b k) (pad_value (layer_in b k)) ≡ true = rw e at g in
    same_true (hash_in b k) (pad_value (layer_in b k)) w

pub pad_from : (c : ℕ) (b : List ℕ) (k : ℕ) → (Padding c (layer_in b k) (index_in b k) → hash_in b k ≡ pad_value (layer_in b k)) → pad_right c b k ≡ true
unfolding pad_right
pad_from c b k f =
    elim (dec_lt (index_in b k) (covering c (layer_in b k))) [
      | yes l ↦ rw (lt-ltb (index_in b k) (covering c (layer_in b k)) l)
      | no n ↦
          let le : covering c (layer_in b k) ≤ index_in b k = omega arith in
          rw (le-ltb (index_in b k) (covering c (layer_in b k)) le)
          (same_eq (hash_in b k) (pad_value (layer_in b k)) (f (padding_from_covering c (layer_in b k) (index_in b k) le)))
    ]

pub record FamilyIn (h c : ℕ) (b : List ℕ) (k j : ℕ) : Type 0 where
  pub before : k + 1 < j
  pub parent : rank_in h b k + 2 * 2 ^ h ≡ 2 * rank_in h b j
  pub beside : rank_in h b (k + 1) ≡ rank_in h b k + 1
  pub left_pads : pad_right c b k ≡ true
  pub right_pads : pad_right c b (k + 1) ≡ true
  pub made : pair_hash (hash_in b k) (hash_in b (k + 1)) ≡ hash_in b j

module _ (h c : ℕ) (b : List ℕ) (k j : ℕ) where
  children_says : children_of h b k j ≡ true → (rank_in h b k + 2 * 2 ^ h ≡ 2 * rank_in h b j) × (rank_in h b (k + 1) ≡ rank_in h b k + 1)
  unfolding children_of
  children_says g =
      let e = both (eqb (rank_in h b k + 2 * 2 ^ h) (2 * rank_in h b j)) (eqb (rank_in h b (k + 1)) (rank_in h b k + 1)) g in
      (eqb-true (rank_in h b k + 2 * 2 ^ h) (2 * rank_in h b j) e.0, eqb-true (rank_in h b (k + 1)) (rank_in h b k + 1) e.1)

  children_from : rank_in h b k + 2 * 2 ^ h ≡ 2 * rank_in h b j → rank_in h b (k + 1) ≡ rank_in h b k + 1 → children_of h b k j ≡ true
  unfolding children_of
  children_from e f = and_two _ _ (eq-eqb (rank_in h b k + 2 * 2 ^ h) (2 * rank_in h b j) e) (eq-eqb (rank_in h b (k + 1)) (rank_in h b k + 1) f)

  pub family_says : family_at h c b k j ≡ true → FamilyIn h c b k j
  unfolding family_at made_by
  family_says g =
      let a = both (ltb (k + 1) j && children_of h b k j && (pad_right c b k && pad_right c b (k + 1))) (same (pair_hash (hash_in b k) (hash_in b (k + 1))) (hash_in b j)) g in
      let d = both (ltb (k + 1) j && children_of h b k j) (pad_right c b k && pad_right c b (k + 1)) a.0 in
      let e = both (ltb (k + 1) j) (children_of h b k j) d.0 in
      let p = both (pad_right c b k) (pad_right c b (k + 1)) d.1 in
      let q = children_says e.1 in
      record {
        before = ltb-true (k + 1) j e.0;
        parent = q.0;
        beside = q.1;
        left_pads = p.0;
        right_pads = p.1;
        made = same_true (pair_hash (hash_in b k) (hash_in b (k + 1))) (hash_in b j) a.1;
      }

  pub family_from : FamilyIn h c b k j → family_at h c b k j ≡ true
  unfolding family_at made_by
  family_from F =
      let s = same_eq (pair_hash (hash_in b k) (hash_in b (k + 1))) (hash_in b j) F.made in
      let l = lt-ltb (k + 1) j F.before in
      and_two _ _ (and_two _ _ (and_two _ _ l (children_from F.parent F.beside)) (and_two _ _ F.left_pads F.right_pads)) s

-- the first position of a layer is no padding
pub first_not_padding : (c l i : ℕ) → 1 ≤ c → i ≡ 0 → Padding c l i → ⊥
unfolding Padding
first_not_padding c l i some z pd = let w : i * 2 ^ l ≡ 0 = rw z (omega arith) in omega arith

-- ---- positions that rise

module _ (h c : ℕ) (b : List ℕ) (p : ℕ) (G : places_good h b p ≡ true) where
  at : (k : ℕ) → k < p → PlaceIn h b k
  at k l = place_says h b k (place_at h b p G k l)

  pub rises : (k m : ℕ) → k < m → m < p → rank_in h b k < rank_in h b m
  rises k zero lt l = absurd (omega arith)
  rises k (suc m) lt l =
      let f = (at (suc m) l).from in
      let e = rank_after h b m in
      elim (ℕ_discrete k m) [
        | yes q ↦ let w : rank_in h b k ≡ rank_in h b m = ap (rank_in h b) q in omega arith
        | no ne ↦ omega (arith, rises k m (omega arith) (omega arith))
      ]

  -- two records of one rank are one record
  pub one_record : (k m : ℕ) → k < p → m < p → rank_in h b k ≡ rank_in h b m → k ≡ m
  one_record k m a d e =
      elim (dec_lt k m) [
        | yes y ↦ absurd (omega (arith, rises k m y d))
        | no n ↦ elim (dec_lt m k) [ yes y ↦ absurd (omega (arith, rises m k y a)) | no x ↦ omega arith ]
      ]

  -- two of neighbouring ranks are neighbours
  pub next_record : (k m : ℕ) → k < p → m < p → rank_in h b m ≡ rank_in h b k + 1 → m ≡ k + 1
  next_record k m a d e =
      elim (dec_lt k m) [
        | yes y ↦ elim (ℕ_discrete m (k + 1)) [
          | yes q ↦ q
          | no ne ↦ absurd (omega (arith, rises k (k + 1) (omega arith) (omega arith), rises (k + 1) m (omega arith) d))
        ]
        | no n ↦ elim (ℕ_discrete k m) [
          | yes q ↦ let w : rank_in h b k ≡ rank_in h b m = ap (rank_in h b) q in absurd (omega arith)
          | no x ↦ absurd (omega (arith, rises m k (omega arith) a))
        ]
      ]

  -- a record's rank says its layer and index
  pub record_at : (k l i : ℕ) → k < p → l ≤ h → i < 2 ^ (h - l) → rank_in h b k ≡ rank h l i → (layer_in b k ≡ l) × (index_in b k ≡ i)
  record_at k l i a lh ib e = rank_distinct h (layer_in b k) (index_in b k) l i (at k a).low lh (at k a).inside ib e

  rank_of : (k l i : ℕ) → layer_in b k ≡ l → index_in b k ≡ i → rank_in h b k ≡ rank h l i
  rank_of k l i e f = ap₂ (λ (x y : ℕ). rank h x y) e f

  -- each position stands in the tree, with one hash
  pub placed_in_tree : InTree h (Placed b p)
  placed_in_tree =
      record {
        low = λ l i v x. rw x.layer at (at x.k x.low).low;
        inside = λ l i v x. rw (x.layer, x.index) at (at x.k x.low).inside;
        one =
            λ l i v w x y.
            let e = one_record x.k y.k x.low y.low (rank_of x.k l i x.layer x.index ∙ sym (rank_of y.k l i y.layer y.index)) in
            sym x.hash ∙ ap (hash_in b) e ∙ y.hash;
      }

  -- only the last record can be the root
  pub not_root : (k : ℕ) → k + 1 < p → layer_in b k < h
  not_root k l =
      let a = at k (omega arith) in
      elim (dec_lt (layer_in b k) h) [
        | yes y ↦ y
        | no n ↦
            let e : layer_in b k ≡ h = omega (arith, a.low) in
            let z : index_in b k ≡ 0 = root_alone h (index_in b k) (rw e at a.inside) in
            let r : rank_in h b k ≡ rank h h 0 = ap₂ (λ (u w : ℕ). rank h u w) e z in
            let last = at (p - 1) (omega arith) in
            absurd (omega (arith, rank_root h, rises k (p - 1) (omega arith) (omega arith), rank_most h (layer_in b (p - 1)) (index_in b (p - 1)) last.inside))
      ]
