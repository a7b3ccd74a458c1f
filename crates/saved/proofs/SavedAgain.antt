-- SAVED AGAIN: what is saved of a loaded store are the bytes that it was loaded from. The positions of the tree and the records are gone through
-- side by side, in the order of ranks.
-- Assumes nothing.
use Rattle.std.specs.Prelude.{◌≡◌, Bool, true, false, cond, List, [], ◌∷◌, ◌++◌, ◌↔◌, ℕ, zero, suc, ◌+◌, ◌-◌, ◌*◌, ◌^◌, ◌≤◌, ◌<◌}
use Rattle.std.proofs.Math.Path.{refl}
use Rattle.std.proofs.Common.{ap, ap₂, sym, ◌∙◌, append-nil, append_assoc, pow_pos, arith}
use Rattle.std.proofs.lemmas.Bool.{false≢true}
use Rattle.std.proofs.Math.Decide.{ℕ_discrete, dec_lt}
use Rattle.std.proofs.Math.Nat.{pow-zero}
use Rattle.tree.specs.Geometry.{node_number}
use Rattle.tree.proofs.GeometryLaws.{layer_doubles}
use Rattle.cells.specs.Cells.{held_at, hash_at}
use Rattle.cells.specs.EntriesLaws.{Hold}
use Rattle.marks.specs.Marks.{marked_at}
use Rattle.saved.specs.Form.{Place, layer_in, index_in, hash_in, block_in, rank, rank_in, place_in, places_to, marks_to, places_good, marks_good, next_block, Placed}
use Rattle.saved.specs.Save.{place_held, layer_held, held_below, marked_below}
use Rattle.saved.proofs.SoundLaws.{PlaceIn, place_at, place_says, rises}
use Rattle.saved.proofs.PrefixLaws.{mark_at, mark_says}
use Rattle.saved.proofs.RankLaws.{rank_most, rank_next, width_most}

-- where a layer ends the next begins
pub rank_layer_end : (h l : ℕ) → l < h → rank h l (2 ^ (h - l)) ≡ rank h (suc l) 0
unfolding rank
rank_layer_end h l lt = omega (arith, width_most h l, layer_doubles h l lt)

rank_end : (h : ℕ) → rank h h 1 + 1 ≡ 2 * 2 ^ h
unfolding rank
rank_end h = let z : h - h ≡ 0 = omega arith in let e : 2 ^ (h - h) ≡ 1 = rw (z, pow-zero 2) in omega (arith, pow_pos h)

pub rank_begin : (h : ℕ) → rank h 0 0 ≡ 0
unfolding rank
rank_begin h = let z : h - 0 ≡ h = omega arith in rw z (omega arith)

module _ (h c : ℕ) (b t : List ℕ) (p : ℕ) (G : places_good h b p ≡ true)
    (exactly : (l i : ℕ) (v : List ℕ) → l ≤ h → i < 2 ^ (h - l) → Hold t (node_number h l i) v ↔ Placed b p l i v) where
  at : (k : ℕ) → k < p → PlaceIn h b k
  at k l = place_says h b k (place_at h b p G k l)

  -- the first k records are those of rank below r, and L is what they name
  record Upto (r : ℕ) (L : List Place) : Type 0 where
    k : ℕ
    low : k ≤ p
    named : L ≡ places_to b k
    below : (m : ℕ) → m < k → rank_in h b m < r
    rest : (m : ℕ) → k ≤ m → m < p → r ≤ rank_in h b m

  taken : (l i : ℕ) (L : List Place) (U : Upto (rank h l i) L) → l ≤ h → i < 2 ^ (h - l) → held_at t (node_number h l i) ≡ true → Upto (rank h l (i + 1)) (L ++ place_held t h l i)
  taken l i L U lh ib y =
      let X = (exactly l i (hash_at t (node_number h l i)) lh ib).0 (y, refl) in
      let rx : rank_in h b X.k ≡ rank h l i = ap₂ (λ (u w : ℕ). rank h u w) X.layer X.index in
      let e : X.k ≡ U.k =
      elim (dec_lt X.k U.k) [
        | yes a ↦ absurd (omega (arith, U.below X.k a))
        | no n ↦ elim (ℕ_discrete X.k U.k) [
          | yes q ↦ q
          | no ne ↦
              let lk : U.k < p = omega (arith, X.low) in
              absurd (omega (arith, U.rest U.k (omega arith) lk, rises h c b p G U.k X.k (omega arith) X.low))
        ]
      ] in
      let lk : U.k < p = rw e at X.low in
      let re : rank_in h b U.k ≡ rank h l i = ap (rank_in h b) (sym e) ∙ rx in
      let here : record { layer = l; index = i; hash = hash_at t (node_number h l i) } ≡ place_in b U.k = sym (same_place X.k l i (hash_at t (node_number h l i)) X.layer X.index X.hash) ∙ ap (place_in b) e in
      let nx = rank_next h l i in
      record {
        k = suc U.k;
        low = lk;
        named = ap₂ (λ (x y : List Place). x ++ y) U.named (held_is y ∙ ap (λ (x : Place). x ∷ []) here) ∙ sym (next_places U.k);
        below = λ m a. elim (ℕ_discrete m U.k) [ yes q ↦ let w : rank_in h b m ≡ rank_in h b U.k = ap (rank_in h b) q in omega arith | no ne ↦ omega (arith, U.below m (omega arith)) ];
        rest = λ m a d. omega (arith, rises h c b p G U.k m (omega arith) d);
      }
    where
      same_place : (k l i : ℕ) (v : List ℕ) → layer_in b k ≡ l → index_in b k ≡ i → hash_in b k ≡ v → place_in b k ≡ record { layer = l; index = i; hash = v }
      same_place k l i v x y z = rw (x, y, z)

      held_is : held_at t (node_number h l i) ≡ true → place_held t h l i ≡ record { layer = l; index = i; hash = hash_at t (node_number h l i) } ∷ []
      held_is y = rw y

      next_places : (k : ℕ) → places_to b (suc k) ≡ places_to b k ++ (place_in b k ∷ [])
      next_places k = unfold places_to in refl

  passed : (l i : ℕ) (L : List Place) (U : Upto (rank h l i) L) → l ≤ h → i < 2 ^ (h - l) → held_at t (node_number h l i) ≡ false → Upto (rank h l (i + 1)) (L ++ place_held t h l i)
  passed l i L U lh ib n =
      let nx = rank_next h l i in
      record {
        k = U.k;
        low = U.low;
        named = ap (λ (x : List Place). L ++ x) (held_not n) ∙ append-nil L ∙ U.named;
        below = λ m a. omega (arith, U.below m a);
        rest =
            λ m a d.
            let ge = U.rest m a d in
            elim (ℕ_discrete (rank_in h b m) (rank h l i)) [
              | yes q ↦
                  let w = Rattle.saved.proofs.SoundLaws.record_at h c b p G m l i d lh ib q in
                  let H = (exactly l i (hash_in b m) lh ib).1 (record { k = m; low = d; layer = w.0; index = w.1; hash = refl }) in
                  absurd (false≢true (sym n ∙ H.0))
              | no ne ↦ omega arith
            ];
      }
    where
      held_not : held_at t (node_number h l i) ≡ false → place_held t h l i ≡ []
      held_not y = rw y

  one_more : (l i : ℕ) (L : List Place) → Upto (rank h l i) L → l ≤ h → i < 2 ^ (h - l) → Upto (rank h l (i + 1)) (L ++ place_held t h l i)
  one_more l i L U lh ib = by (held_at t (node_number h l i)) refl
    where
      by : (x : Bool) → held_at t (node_number h l i) ≡ x → Upto (rank h l (i + 1)) (L ++ place_held t h l i)
      by true e = taken l i L U lh ib e
      by false e = passed l i L U lh ib e

  layer_next : (l w : ℕ) → layer_held t h l (suc w) ≡ layer_held t h l w ++ place_held t h l w
  unfolding layer_held
  layer_next l w = refl

  layer_none : (l : ℕ) → layer_held t h l 0 ≡ []
  unfolding layer_held
  layer_none l = refl

  in_layer : (l w : ℕ) (L : List Place) → Upto (rank h l 0) L → l ≤ h → w ≤ 2 ^ (h - l) → Upto (rank h l w) (L ++ layer_held t h l w)
  in_layer l zero L U lh b2 = rw (layer_none l, append-nil L) U
  in_layer l (suc w) L U lh b2 =
      let next = one_more l w (L ++ layer_held t h l w) (in_layer l w L U lh (omega arith)) lh (omega arith) in
      let e : w + 1 ≡ suc w = omega arith in
      rw (layer_next l w, ← append_assoc L (layer_held t h l w) (place_held t h l w), ← e) next

  below_next : (l : ℕ) → held_below t h (suc l) ≡ held_below t h l ++ layer_held t h l (2 ^ (h - l))
  unfolding held_below
  below_next l = refl

  below_none : held_below t h 0 ≡ []
  unfolding held_below
  below_none = refl

  layers : (l : ℕ) → l ≤ h → Upto (rank h l 0) (held_below t h l)
  layers zero lh =
      rw (below_none, rank_begin h) (record { k = 0; low = omega arith; named = unfold places_to in refl; below = λ m a. absurd (omega arith); rest = λ m a d. omega arith })
  layers (suc l) lh =
      rw (below_next l, ← rank_layer_end h l (omega arith)) (in_layer l (2 ^ (h - l)) (held_below t h l) (layers l (omega arith)) (omega arith) (omega arith))

  -- all layers: all records
  pub all_places : held_below t h (suc h) ≡ places_to b p
  all_places =
      let z : h - h ≡ 0 = omega arith in
      let one : 2 ^ (h - h) ≡ 1 = rw (z, pow-zero 2) in
      let U : Upto (rank h h 1) (held_below t h h ++ layer_held t h h 1) = in_layer h 1 (held_below t h h) (layers h (omega arith)) (omega arith) (omega arith) in
      let e : U.k ≡ p =
      elim (ℕ_discrete U.k p) [
        | yes q ↦ q
        | no ne ↦
            let lk : U.k < p = omega (arith, U.low) in
            absurd (omega (arith, U.rest U.k (omega arith) lk, rank_end h, rank_most h (layer_in b U.k) (index_in b U.k) (at U.k lk).inside))
      ] in
      below_next h ∙ ap (λ (w : ℕ). held_below t h h ++ layer_held t h h w) one ∙ U.named ∙ ap (places_to b) e

-- ---- the marks, likewise

module _ (c : ℕ) (b t : List ℕ) (at m : ℕ) (g : marks_good c b at m ≡ true) (exactly : (j : ℕ) → j < c → (marked_at t j ≡ true) ↔ ((i : ℕ) × (i < m) × (block_in b at i ≡ j))) where
  next_block_lem : (k : ℕ) → next_block b at (suc k) ≡ suc (block_in b at k)
  unfolding next_block
  next_block_lem k = refl

  blocks_rise : (k i : ℕ) → k < i → i < m → block_in b at k < block_in b at i
  blocks_rise k zero lt l = absurd (omega arith)
  blocks_rise k (suc i) lt l =
      let f = (mark_says c b at (suc i) (mark_at c b at m g (suc i) l)).from in
      let e = next_block_lem i in
      elim (ℕ_discrete k i) [
        | yes q ↦ let w : block_in b at k ≡ block_in b at i = ap (block_in b at) q in omega arith
        | no ne ↦ omega (arith, blocks_rise k i (omega arith) (omega arith))
      ]

  record Marked (n : ℕ) (L : List ℕ) : Type 0 where
    k : ℕ
    low : k ≤ m
    named : L ≡ marks_to b at k
    below : (i : ℕ) → i < k → block_in b at i < n
    rest : (i : ℕ) → k ≤ i → i < m → n ≤ block_in b at i

  marks_next : (k : ℕ) → marks_to b at (suc k) ≡ marks_to b at k ++ (block_in b at k ∷ [])
  unfolding marks_to
  marks_next k = refl

  mark_taken : (n : ℕ) (L : List ℕ) → Marked n L → n < c → marked_at t n ≡ true → Marked (suc n) (L ++ cond (marked_at t n) (n ∷ []) [])
  mark_taken n L U lt y =
      let X = (exactly n lt).0 y in
      let e : X.0 ≡ U.k =
      elim (dec_lt X.0 U.k) [
        | yes a ↦ absurd (omega (arith, U.below X.0 a, X.2))
        | no x ↦ elim (ℕ_discrete X.0 U.k) [
          | yes q ↦ q
          | no ne ↦ absurd (omega (arith, X.2, U.rest U.k (omega arith) (omega (arith, X.1)), blocks_rise U.k X.0 (omega arith) X.1))
        ]
      ] in
      let lk : U.k < m = rw e at X.1 in
      let v : block_in b at U.k ≡ n = ap (block_in b at) (sym e) ∙ X.2 in
      record {
        k = suc U.k;
        low = lk;
        named = ap₂ (λ (x y : List ℕ). x ++ y) U.named (yes_is y ∙ ap (λ (x : ℕ). x ∷ []) (sym v)) ∙ sym (marks_next U.k);
        below = λ i a. elim (ℕ_discrete i U.k) [ yes q ↦ let w : block_in b at i ≡ block_in b at U.k = ap (block_in b at) q in omega arith | no ne ↦ omega (arith, U.below i (omega arith)) ];
        rest = λ i a d. omega (arith, blocks_rise U.k i (omega arith) d);
      }
    where
      yes_is : marked_at t n ≡ true → cond (marked_at t n) (n ∷ []) [] ≡ n ∷ []
      yes_is y = rw y

  mark_passed : (n : ℕ) (L : List ℕ) → Marked n L → n < c → marked_at t n ≡ false → Marked (suc n) (L ++ cond (marked_at t n) (n ∷ []) [])
  mark_passed n L U lt y =
      record {
        k = U.k;
        low = U.low;
        named = ap (λ (x : List ℕ). L ++ x) (no_is y) ∙ append-nil L ∙ U.named;
        below = λ i a. omega (arith, U.below i a);
        rest =
            λ i a d.
            elim (ℕ_discrete (block_in b at i) n) [
              | yes q ↦ absurd (false≢true (sym y ∙ (exactly n lt).1 (i, d, q)))
              | no ne ↦ omega (arith, U.rest i a d)
            ];
      }
    where
      no_is : marked_at t n ≡ false → cond (marked_at t n) (n ∷ []) [] ≡ []
      no_is y = rw y

  mark_more : (n : ℕ) (L : List ℕ) → Marked n L → n < c → Marked (suc n) (L ++ cond (marked_at t n) (n ∷ []) [])
  mark_more n L U lt = by (marked_at t n) refl
    where
      by : (x : Bool) → marked_at t n ≡ x → Marked (suc n) (L ++ cond (marked_at t n) (n ∷ []) [])
      by true e = mark_taken n L U lt e
      by false e = mark_passed n L U lt e

  below_more : (n : ℕ) → marked_below t (suc n) ≡ marked_below t n ++ cond (marked_at t n) (n ∷ []) []
  unfolding marked_below
  below_more n = refl

  blocks : (n : ℕ) → n ≤ c → Marked n (marked_below t n)
  blocks zero l = record { k = 0; low = omega arith; named = unfold marked_below marks_to in refl; below = λ i a. absurd (omega arith); rest = λ i a d. omega arith }
  blocks (suc n) l = rw (below_more n) (mark_more n (marked_below t n) (blocks n (omega arith)) (omega arith))

  pub all_marks : marked_below t c ≡ marks_to b at m
  all_marks =
      let U = blocks c (omega arith) in
      let e : U.k ≡ m =
      elim (ℕ_discrete U.k m) [
        | yes q ↦ q
        | no ne ↦
            let lk : U.k < m = omega (arith, U.low) in
            absurd (omega (arith, U.rest U.k (omega arith) lk, (mark_says c b at U.k (mark_at c b at m g U.k lk)).inside))
      ] in
      U.named ∙ ap (marks_to b at) e
