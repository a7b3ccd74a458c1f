-- THE REPAIR holds exactly what is kept. The records are gone through from the last down; a parent stands behind its children, so it is held
-- already if it is kept, and two that belong together are neighbours.
-- Assumes nothing.
use Rattle.std.specs.Prelude.{◌≡◌, Bool, true, false, ◌&&◌, List, ◌↔◌, ◌⊎◌, ℕ, zero, suc, ◌+◌, ◌-◌, ◌*◌, ◌/◌, ◌%◌, ◌^◌, ◌≤◌, ◌<◌, length, ltb}
use Rattle.std.proofs.Math.Path.{refl, ap, ap₂, sym}
use Rattle.std.proofs.Common.{◌∙◌, subst, inl, inr, pow_pos, arith, eq-eqb, eqb-true, lt-ltb, ltb-true}
use Rattle.std.proofs.lemmas.Bool.{false≢true}
use Rattle.std.proofs.Math.Decide.{ℕ_discrete, dec_lt}
use Rattle.std.proofs.Math.Dec.{eqb}
use Rattle.octets.specs.Octets.{same}
use Rattle.octets.specs.OctetsLaws.{same_true, same_eq, cut_length}
use Rattle.sha256.specs.Sha256.{pair_hash}
use Rattle.tree.specs.Geometry.{node_number}
use Rattle.tree.proofs.GeometryLaws.{node_number_root, node_number_range, node_number_distinct, node_number_parent, layer_doubles}
use Rattle.tree.specs.Values.{pad_value}
use Rattle.cells.specs.Cells.{Room, held_at, hash_at}
use Rattle.cells.specs.CellsLaws.{put_room, held_put_same, hash_put_same, held_put_other, hash_put_other}
use Rattle.cells.specs.EntriesLaws.{Hold}
use Rattle.store.specs.Store.{positions}
use Rattle.store.specs.StoreLaws.{positions_some}
use Rattle.saved.specs.Clauses.{Children, Kept, top, child}
use Rattle.saved.proofs.ClausesLaws.{kept_within}
use Rattle.saved.specs.Form.{root_in, place_count, layer_in, index_in, hash_in, rank, rank_in, places_good, Placed}
use Rattle.saved.specs.Saved.{pad_right, neighbours, parent_in, joins, with_place, mended, mended_many}
use Rattle.saved.proofs.RankLaws.{rank_root, rank_below, rank_parent, rank_next, rank_parity}
use Rattle.saved.proofs.SoundLaws.{PlaceIn, place_at, place_says, pad_says, pad_from, rises, one_record, next_record, record_at, not_root, both, and_two}
use Rattle.saved.proofs.SoundExactly.{RootLast}

-- ---- what the test says

pub record Joined (h c : ℕ) (b s : List ℕ) (k : ℕ) : Type 0 where
  pub beside : rank_in h b (k + 1) ≡ rank_in h b k + 1
  pub even : index_in b k ≡ 2 * (index_in b k / 2)
  pub lower : layer_in b k < h
  pub held : held_at s (node_number h (layer_in b k) (index_in b k) / 2) ≡ true
  pub left_pads : pad_right c b k ≡ true
  pub right_pads : pad_right c b (k + 1) ≡ true
  pub made : pair_hash (hash_in b k) (hash_in b (k + 1)) ≡ hash_at s (node_number h (layer_in b k) (index_in b k) / 2)

module _ (h c : ℕ) (b s : List ℕ) (k : ℕ) where
  near_says : neighbours h b k ≡ true → (rank_in h b (k + 1) ≡ rank_in h b k + 1) × (index_in b k ≡ 2 * (index_in b k / 2)) × (layer_in b k < h)
  unfolding neighbours
  near_says g =
      let d = both (eqb (rank_in h b (k + 1)) (rank_in h b k + 1) && eqb (index_in b k) (2 * (index_in b k / 2))) (ltb (layer_in b k) h) g in
      let e = both (eqb (rank_in h b (k + 1)) (rank_in h b k + 1)) (eqb (index_in b k) (2 * (index_in b k / 2))) d.0 in
      (eqb-true (rank_in h b (k + 1)) (rank_in h b k + 1) e.0, eqb-true (index_in b k) (2 * (index_in b k / 2)) e.1, ltb-true (layer_in b k) h d.1)

  near_from : rank_in h b (k + 1) ≡ rank_in h b k + 1 → index_in b k ≡ 2 * (index_in b k / 2) → layer_in b k < h → neighbours h b k ≡ true
  unfolding neighbours
  near_from x y z =
      and_two _ _ (and_two _ _ (eq-eqb (rank_in h b (k + 1)) (rank_in h b k + 1) x) (eq-eqb (index_in b k) (2 * (index_in b k / 2)) y)) (lt-ltb (layer_in b k) h z)

  pub joins_says : joins h c b s k ≡ true → Joined h c b s k
  unfolding joins
  joins_says g =
      let a = both (neighbours h b k && held_at s (parent_in h b k) && (pad_right c b k && pad_right c b (k + 1))) (same (pair_hash (hash_in b k) (hash_in b (k + 1))) (hash_at s (parent_in h b k))) g in
      let d = both (neighbours h b k && held_at s (parent_in h b k)) (pad_right c b k && pad_right c b (k + 1)) a.0 in
      let e = both (neighbours h b k) (held_at s (parent_in h b k)) d.0 in
      let q = both (pad_right c b k) (pad_right c b (k + 1)) d.1 in
      let n = near_says e.0 in
      record {
        beside = n.0;
        even = n.1;
        lower = n.2;
        held = e.1;
        left_pads = q.0;
        right_pads = q.1;
        made = same_true (pair_hash (hash_in b k) (hash_in b (k + 1))) (hash_at s (parent_in h b k)) a.1;
      }

  pub joins_from : Joined h c b s k → joins h c b s k ≡ true
  unfolding joins
  joins_from J =
      let m = same_eq (pair_hash (hash_in b k) (hash_in b (k + 1))) (hash_at s (parent_in h b k)) J.made in
      and_two _ _ (and_two _ _ (and_two _ _ (near_from J.beside J.even J.lower) J.held) (and_two _ _ J.left_pads J.right_pads)) m

-- ---- one step

module _ (h c : ℕ) (b s : List ℕ) (k : ℕ) where
  pub mended_yes : joins h c b s k ≡ true → mended h c b s (suc (suc k)) ≡ mended h c b (with_place h b (with_place h b s k) (k + 1)) k
  unfolding mended
  mended_yes e = rw e

  pub mended_no : joins h c b s k ≡ false → mended h c b s (suc (suc k)) ≡ mended h c b s (suc k)
  unfolding mended
  mended_no e = rw e

  pub many_yes : joins h c b s k ≡ true → mended_many h c b s (suc (suc k)) ≡ mended_many h c b (with_place h b (with_place h b s k) (k + 1)) k + 2
  unfolding mended_many
  many_yes e = rw e

  pub many_no : joins h c b s k ≡ false → mended_many h c b s (suc (suc k)) ≡ mended_many h c b s (suc k)
  unfolding mended_many
  many_no e = rw e

module _ (h c : ℕ) (b s : List ℕ) where
  pub mended_none : mended h c b s 0 ≡ s
  unfolding mended
  mended_none = refl

  pub mended_one : mended h c b s 1 ≡ s
  unfolding mended
  mended_one = refl

  pub many_none : mended_many h c b s 0 ≡ 0
  unfolding mended_many
  many_none = refl

  pub many_one : mended_many h c b s 1 ≡ 0
  unfolding mended_many
  many_one = refl

-- ---- the stages

module _ (h c : ℕ) (b : List ℕ) (G : places_good h b (place_count b) ≡ true) (long : 45 + 41 * place_count b ≤ length b) where
  abbrev KeptAt : ℕ → ℕ → List ℕ → Type 0
  KeptAt l i v = Kept h c (root_in b) (Placed b (place_count b)) l i v

  abbrev KeptRecord : ℕ → Type 0
  KeptRecord m = KeptAt (layer_in b m) (index_in b m) (hash_in b m)

  abbrev number : ℕ → ℕ
  number m = node_number h (layer_in b m) (index_in b m)

  at : (k : ℕ) → k < place_count b → PlaceIn h b k
  at k l = place_says h b k (place_at h b (place_count b) G k l)

  number_low : (k : ℕ) → k < place_count b → (1 ≤ number k) × (number k < positions h)
  unfolding positions
  number_low k l = node_number_range h (layer_in b k) (index_in b k) (at k l).inside

  hash_long : (k : ℕ) → k < place_count b → length (hash_in b k) ≡ 32
  unfolding hash_in
  hash_long k l = cut_length b (54 + 41 * k) 32 (omega (arith, long))

  -- two records have two numbers
  number_other : (k m : ℕ) → k < place_count b → m < place_count b → (k ≡ m → ⊥) → number k ≡ number m → ⊥
  number_other k m a d ne e =
      let w = node_number_distinct h (layer_in b k) (index_in b k) (layer_in b m) (index_in b m) (at k a).low (at m d).low (at k a).inside (at m d).inside e in
      ne (one_record h c b (place_count b) G k m a d (ap₂ (λ (x y : ℕ). rank h x y) w.0 w.1))

  -- a record that is kept, and not the last, has its sibling beside it and its parent behind both
  record Sibling (m : ℕ) : Type 0 where
    q : ℕ
    low : q < place_count b
    kept : KeptRecord q
    half : ((rank_in h b m % 2 ≡ 0) × (rank_in h b q ≡ rank_in h b m + 1)) ⊎ ((rank_in h b q % 2 ≡ 0) × (rank_in h b m ≡ rank_in h b q + 1))

  record Parent (m : ℕ) : Type 0 where
    j : ℕ
    low : j < place_count b
    behind : m + 1 < j
    kept : KeptRecord j
    place : number j ≡ number m / 2
    made : hash_in b j ≡ pair_hash (hash_in b m) (hash_in b (m + 1))
    left_pads : pad_right c b m ≡ true
    right_pads : pad_right c b (m + 1) ≡ true
    even : index_in b m ≡ 2 * (index_in b m / 2)

  sibling_of : (m : ℕ) → m + 1 < place_count b → KeptRecord m → Sibling m
  sibling_of m l (top e z v r) = absurd (omega (arith, not_root h c b (place_count b) G m l))
  sibling_of m l (child i x y lt C K (inl w)) =
      let R = C.right in
      let rr : rank_in h b R.k ≡ rank h (layer_in b m) (2 * i + 1) = ap₂ (λ (u t : ℕ). rank h u t) R.layer R.index in
      let rm : rank_in h b m ≡ rank h (layer_in b m) (2 * i) = ap (rank h (layer_in b m)) w.0 in
      record {
        q = R.k;
        low = R.low;
        kept = rw (R.layer, R.index, R.hash) (child i x y lt C K (inr (refl, refl)));
        half = inl (omega (arith, rank_parity h (layer_in b m) (2 * i)), omega (arith, rank_next h (layer_in b m) (2 * i)));
      }
  sibling_of m l (child i x y lt C K (inr w)) =
      let L = C.left in
      let rl : rank_in h b L.k ≡ rank h (layer_in b m) (2 * i) = ap₂ (λ (u t : ℕ). rank h u t) L.layer L.index in
      let rm : rank_in h b m ≡ rank h (layer_in b m) (2 * i + 1) = ap (rank h (layer_in b m)) w.0 in
      record {
        q = L.k;
        low = L.low;
        kept = rw (L.layer, L.index, L.hash) (child i x y lt C K (inl (refl, refl)));
        half = inr (omega (arith, rank_parity h (layer_in b m) (2 * i)), omega (arith, rank_next h (layer_in b m) (2 * i)));
      }

  parent_of : (m : ℕ) → m + 1 < place_count b → rank_in h b m % 2 ≡ 0 → KeptRecord m → Parent m
  parent_of m l z (top e y v r) = absurd (omega (arith, not_root h c b (place_count b) G m l))
  parent_of m l z (child i x y lt C K (inr w)) =
      let rm : rank_in h b m ≡ rank h (layer_in b m) (2 * i + 1) = ap (rank h (layer_in b m)) w.0 in
      absurd (omega (arith, rank_parity h (layer_in b m) (2 * i + 1)))
  parent_of m l z (child i x y lt C K (inl w)) =
      let ly = layer_in b m in
      let R = C.right in
      let rr : rank_in h b R.k ≡ rank h (layer_in b m) (2 * i + 1) = ap₂ (λ (u t : ℕ). rank h u t) R.layer R.index in
      let rm : rank_in h b m ≡ rank h (layer_in b m) (2 * i) = ap (rank h (layer_in b m)) w.0 in
      let beside : rank_in h b R.k ≡ rank_in h b m + 1 = omega (arith, rank_next h (layer_in b m) (2 * i)) in
      let e : R.k ≡ m + 1 = next_record h c b (place_count b) G m R.k (omega arith) R.low beside in
      let hy : hash_in b (m + 1) ≡ y = ap (hash_in b) (sym e) ∙ R.hash in
      let J = kept_within h c (root_in b) (Placed b (place_count b)) (suc (layer_in b m)) i (pair_hash x y) K in
      let rj : rank_in h b J.k ≡ rank h (suc (layer_in b m)) i = ap₂ (λ (u t : ℕ). rank h u t) J.layer J.index in
      let four = rank_below h (layer_in b m) (index_in b m) lt (at m (omega arith)).inside (omega (arith, w.0)) in
      let pr = rank_parent h (layer_in b m) i lt in
      let nr : rank_in h b (m + 1) ≡ rank_in h b m + 1 = ap (rank_in h b) (sym e) ∙ beside in
      let ih : index_in b m / 2 ≡ i = omega (arith, w.0) in
      record {
        j = J.k;
        low = J.low;
        behind =
            elim (dec_lt (m + 1) J.k) [
              | yes t ↦ t
              | no n ↦ elim (ℕ_discrete J.k (m + 1)) [
                | yes q ↦ let r : rank_in h b J.k ≡ rank_in h b (m + 1) = ap (rank_in h b) q in absurd (omega arith)
                | no ne ↦ absurd (omega (arith, rises h c b (place_count b) G J.k (m + 1) (omega arith) l))
              ]
            ];
        kept = rw (J.layer, J.index, J.hash) K;
        place = ap₂ (λ (u t : ℕ). node_number h u t) J.layer (J.index ∙ sym ih) ∙ node_number_parent h (layer_in b m) (index_in b m) lt;
        made = J.hash ∙ ap₂ pair_hash (sym w.1) (sym hy);
        left_pads = pad_from c b m (λ pd. w.1 ∙ C.left_pads (rw w.0 at pd));
        right_pads =
            pad_from c b (m + 1)
            (λ pd.
            let ll : layer_in b (m + 1) ≡ layer_in b m = ap (layer_in b) (sym e) ∙ R.layer in
            let ii : index_in b (m + 1) ≡ 2 * i + 1 = ap (index_in b) (sym e) ∙ R.index in
            hy ∙ C.right_pads (rw (ll, ii) at pd) ∙ ap pad_value (sym ll));
        even = omega (arith, w.0);
      }

  -- the records from k on are done
  record Stage (s : List ℕ) (k : ℕ) : Type 0 where
    room : Room (positions h) s
    low : k < place_count b
    right : (l i : ℕ) (v : List ℕ) → l ≤ h → i < 2 ^ (h - l) → Hold s (node_number h l i) v → KeptAt l i v
    all : (m : ℕ) → k ≤ m → m < place_count b → KeptRecord m → Hold s (number m) (hash_in b m)
    apart : (m : ℕ) → m + 1 ≡ k → KeptRecord m → rank_in h b m % 2 ≡ 0 → rank_in h b k ≡ rank_in h b m + 1 → ⊥

  -- all of them are
  pub record Ended (t : List ℕ) : Type 0 where
    pub room : Room (positions h) t
    pub right : (l i : ℕ) (v : List ℕ) → l ≤ h → i < 2 ^ (h - l) → Hold t (node_number h l i) v → KeptAt l i v
    pub all : (m : ℕ) → m < place_count b → KeptRecord m → Hold t (number m) (hash_in b m)

  -- a kept pair is seen: its parent is held already
  kept_joins : (s : List ℕ) (k : ℕ) → Stage s (suc (suc k)) → KeptRecord k → rank_in h b k % 2 ≡ 0 → rank_in h b (k + 1) ≡ rank_in h b k + 1 → joins h c b s k ≡ true
  kept_joins s k S K z nx =
      let l : k + 1 < place_count b = omega (arith, S.low) in
      let p = parent_of k l z K in
      let H = S.all p.j (omega (arith, p.behind)) p.low p.kept in
      joins_from h c b s k
      (record {
        beside = nx;
        even = p.even;
        lower = not_root h c b (place_count b) G k l;
        held = ap (held_at s) (sym p.place) ∙ H.0;
        left_pads = p.left_pads;
        right_pads = p.right_pads;
        made = sym p.made ∙ sym H.1 ∙ ap (hash_at s) p.place;
      })

  dropped : (s : List ℕ) (k : ℕ) → Stage s (suc (suc k)) → joins h c b s k ≡ false → Stage s (suc k)
  dropped s k S out =
      record {
        room = S.room;
        low = omega (arith, S.low);
        right = S.right;
        all =
            λ m a l K.
            elim (ℕ_discrete m (suc k)) [
              | yes e ↦ absurd (gone (subst KeptRecord e K))
              | no ne ↦ S.all m (omega arith) l K
            ];
        apart = λ m e K z n. absurd (false≢true (sym out ∙ kept_joins s k S (subst KeptRecord (same_k m e) K) (rw (same_k m e) at z) (step m e n)));
      }
    where
      same_k : (m : ℕ) → m + 1 ≡ suc k → m ≡ k
      same_k m e = omega arith

      step : (m : ℕ) → m + 1 ≡ suc k → rank_in h b (suc k) ≡ rank_in h b m + 1 → rank_in h b (k + 1) ≡ rank_in h b k + 1
      step m e n =
          let a : k + 1 ≡ suc k = omega arith in
          ap (rank_in h b) a ∙ n ∙ ap (λ (x : ℕ). rank_in h b x + 1) (same_k m e)

      gone : KeptRecord (suc k) → ⊥
      gone K =
          let w = sibling_of (suc k) (omega (arith, S.low)) K in
          elim w.half [
            | inl x ↦
                let e = next_record h c b (place_count b) G (suc k) w.q (omega (arith, S.low)) w.low x.1 in
                let e2 : w.q ≡ suc (suc k) = omega arith in
                S.apart (suc k) (omega arith) K x.0 (ap (rank_in h b) (sym e2) ∙ x.1)
            | inr x ↦
                let e = next_record h c b (place_count b) G w.q (suc k) w.low (omega (arith, S.low)) x.1 in
                let e2 : w.q ≡ k = omega arith in
                let e3 : k + 1 ≡ suc k = omega arith in
                false≢true (sym out ∙ kept_joins s k S (subst KeptRecord e2 w.kept) (rw e2 at x.0) (ap (rank_in h b) e3 ∙ x.1 ∙ ap (λ (y : ℕ). rank_in h b y + 1) e2))
          ]

  joined : (s : List ℕ) (k : ℕ) → Stage s (suc (suc k)) → joins h c b s k ≡ true → Stage (with_place h b (with_place h b s k) (k + 1)) k
  joined s k S fits = record { room = room2; low = l0; right = right2; all = all2; apart = apart2 }
    where
      J : Joined h c b s k
      J = joins_says h c b s k fits

      l0 : k < place_count b
      l0 = omega (arith, S.low)

      l1 : k + 1 < place_count b
      l1 = omega (arith, S.low)

      z0 : length (hash_in b k) ≡ 32
      z0 = hash_long k l0

      z1 : length (hash_in b (k + 1)) ≡ 32
      z1 = hash_long (k + 1) l1

      room1 : Room (positions h) (with_place h b s k)
      room1 = put_room s (positions h) (number k) S.room (number_low k l0).1 (hash_in b k) z0

      room2 : Room (positions h) (with_place h b (with_place h b s k) (k + 1))
      room2 = put_room (with_place h b s k) (positions h) (number (k + 1)) room1 (number_low (k + 1) l1).1 (hash_in b (k + 1)) z1

      -- what was held elsewhere
      other : (q : ℕ) → q < positions h → (q ≡ number k → ⊥) → (q ≡ number (k + 1) → ⊥)
          → (held_at (with_place h b (with_place h b s k) (k + 1)) q ≡ held_at s q) × (hash_at (with_place h b (with_place h b s k) (k + 1)) q ≡ hash_at s q)
      other q lq n0 n1 = (
        held_put_other (with_place h b s k) (positions h) (number (k + 1)) room1 (number_low (k + 1) l1).1 (hash_in b (k + 1)) z1 q n1
            ∙ held_put_other s (positions h) (number k) S.room (number_low k l0).1 (hash_in b k) z0 q n0,
        hash_put_other (with_place h b s k) (positions h) (number (k + 1)) room1 (number_low (k + 1) l1).1 (hash_in b (k + 1)) z1 q lq n1
            ∙ hash_put_other s (positions h) (number k) S.room (number_low k l0).1 (hash_in b k) z0 q lq n0,
      )

      -- the two that are written
      second : Hold (with_place h b (with_place h b s k) (k + 1)) (number (k + 1)) (hash_in b (k + 1))
      second = (
        held_put_same (with_place h b s k) (positions h) (number (k + 1)) room1 (number_low (k + 1) l1).1 (hash_in b (k + 1)) z1,
        hash_put_same (with_place h b s k) (positions h) (number (k + 1)) room1 (number_low (k + 1) l1).1 (hash_in b (k + 1)) z1,
      )

      first : Hold (with_place h b (with_place h b s k) (k + 1)) (number k) (hash_in b k)
      first =
          let ne = number_other k (k + 1) l0 l1 (λ e. omega arith) in (
            held_put_other (with_place h b s k) (positions h) (number (k + 1)) room1 (number_low (k + 1) l1).1 (hash_in b (k + 1)) z1 (number k) ne
                ∙ held_put_same s (positions h) (number k) S.room (number_low k l0).1 (hash_in b k) z0,
            hash_put_other (with_place h b s k) (positions h) (number (k + 1)) room1 (number_low (k + 1) l1).1 (hash_in b (k + 1)) z1 (number k) (number_low k l0).1 ne
                ∙ hash_put_same s (positions h) (number k) S.room (number_low k l0).1 (hash_in b k) z0,
          )

      -- both are kept, as their parent is
      i2 : ℕ
      i2 = index_in b k / 2

      inside2 : i2 < 2 ^ (h - suc (layer_in b k))
      inside2 = omega (arith, (at k l0).inside, layer_doubles h (layer_in b k) J.lower, J.even)

      parent : KeptAt (suc (layer_in b k)) i2 (pair_hash (hash_in b k) (hash_in b (k + 1)))
      parent =
          let e : node_number h (suc (layer_in b k)) i2 ≡ number k / 2 = node_number_parent h (layer_in b k) (index_in b k) J.lower in
          S.right (suc (layer_in b k)) i2 (pair_hash (hash_in b k) (hash_in b (k + 1))) J.lower inside2 (ap (held_at s) e ∙ J.held, ap (hash_at s) e ∙ sym J.made)

      there : (layer_in b (k + 1) ≡ layer_in b k) × (index_in b (k + 1) ≡ 2 * i2 + 1)
      there =
          let rm : rank_in h b k ≡ rank h (layer_in b k) (2 * i2) = ap (rank h (layer_in b k)) J.even in
          record_at h c b (place_count b) G (k + 1) (layer_in b k) (2 * i2 + 1) l1 (at k l0).low (omega (arith, inside2, layer_doubles h (layer_in b k) J.lower))
          (omega (arith, J.beside, rank_next h (layer_in b k) (2 * i2)))

      two : Children c (Placed b (place_count b)) (layer_in b k) i2 (hash_in b k) (hash_in b (k + 1))
      two =
          record {
            left = record { k = k; low = l0; layer = refl; index = J.even; hash = refl };
            right = record { k = k + 1; low = l1; layer = there.0; index = there.1; hash = refl };
            left_pads = λ pd. pad_says c b k J.left_pads (rw J.even pd);
            right_pads = λ pd. pad_says c b (k + 1) J.right_pads (rw (there.0, there.1) pd) ∙ ap pad_value there.0;
          }

      kept_first : KeptRecord k
      kept_first = child i2 (hash_in b k) (hash_in b (k + 1)) J.lower two parent (inl (J.even, refl))

      kept_second : KeptRecord (k + 1)
      kept_second = rw there.0 (child i2 (hash_in b k) (hash_in b (k + 1)) J.lower two parent (inr (there.1, refl)))

      right2 : (l i : ℕ) (v : List ℕ) → l ≤ h → i < 2 ^ (h - l) → Hold (with_place h b (with_place h b s k) (k + 1)) (node_number h l i) v → KeptAt l i v
      right2 l i v lh ib H =
          elim (ℕ_discrete (node_number h l i) (number (k + 1))) [
            | yes e ↦
                let w = node_number_distinct h l i (layer_in b (k + 1)) (index_in b (k + 1)) lh (at (k + 1) l1).low ib (at (k + 1) l1).inside e in
                let f : v ≡ hash_in b (k + 1) = sym H.1 ∙ ap (hash_at (with_place h b (with_place h b s k) (k + 1))) e ∙ second.1 in
                rw (w.0, w.1, f) kept_second
            | no n1 ↦ elim (ℕ_discrete (node_number h l i) (number k)) [
              | yes e ↦
                  let w = node_number_distinct h l i (layer_in b k) (index_in b k) lh (at k l0).low ib (at k l0).inside e in
                  let f : v ≡ hash_in b k = sym H.1 ∙ ap (hash_at (with_place h b (with_place h b s k) (k + 1))) e ∙ first.1 in
                  rw (w.0, w.1, f) kept_first
              | no n0 ↦
                  let lq : node_number h l i < positions h = unfold positions in (node_number_range h l i ib).1 in
                  let o = other (node_number h l i) lq n0 n1 in
                  S.right l i v lh ib (sym o.0 ∙ H.0, sym o.1 ∙ H.1)
            ]
          ]

      all2 : (m : ℕ) → k ≤ m → m < place_count b → KeptRecord m → Hold (with_place h b (with_place h b s k) (k + 1)) (number m) (hash_in b m)
      all2 m a l K =
          elim (ℕ_discrete m k) [
            | yes e ↦ rw e first
            | no n0 ↦ elim (ℕ_discrete m (k + 1)) [
              | yes e ↦ rw e second
              | no n1 ↦
                  let o = other (number m) (number_low m l).1 (number_other m k l l0 n0) (number_other m (k + 1) l l1 n1) in
                  let H = S.all m (omega arith) l K in
                  (o.0 ∙ H.0, o.1 ∙ H.1)
            ]
          ]

      apart2 : (m : ℕ) → m + 1 ≡ k → KeptRecord m → rank_in h b m % 2 ≡ 0 → rank_in h b k ≡ rank_in h b m + 1 → ⊥
      apart2 m e K z n = omega (arith, rank_parity h (layer_in b k) (index_in b k), J.even)

  -- a record that is left alone is not kept
  lone : (s : List ℕ) → Stage s 1 → Ended s
  lone s S =
      record {
        room = S.room;
        right = S.right;
        all = λ m l K. elim (ℕ_discrete m 0) [ yes e ↦ absurd (gone (subst KeptRecord e K)) | no ne ↦ S.all m (omega arith) l K ];
      }
    where
      gone : KeptRecord 0 → ⊥
      gone K =
          let w = sibling_of 0 (omega (arith, S.low)) K in
          elim w.half [
            | inl x ↦
                let e = next_record h c b (place_count b) G 0 w.q (omega (arith, S.low)) w.low x.1 in
                let e2 : w.q ≡ 1 = omega arith in
                S.apart 0 (omega arith) K x.0 (ap (rank_in h b) (sym e2) ∙ x.1)
            | inr x ↦ let e = next_record h c b (place_count b) G w.q 0 w.low (omega (arith, S.low)) x.1 in omega arith
          ]

  ends : (k : ℕ) (s : List ℕ) → Stage s k → Ended (mended h c b s k)
  ends zero s S = rw (mended_none h c b s) (record { room = S.room; right = S.right; all = λ m l K. S.all m (omega arith) l K })
  ends (suc zero) s S = rw (mended_one h c b s) (lone s S)
  ends (suc (suc k)) s S = by (joins h c b s k) refl (λ e. ends k (with_place h b (with_place h b s k) (k + 1)) (joined s k S e)) (λ e. ends (suc k) s (dropped s k S e))
    where
      by : (x : Bool) → joins h c b s k ≡ x → (joins h c b s k ≡ true → Ended (mended h c b (with_place h b (with_place h b s k) (k + 1)) k))
          → (joins h c b s k ≡ false → Ended (mended h c b s (suc k))) → Ended (mended h c b s (suc (suc k)))
      by true e f g = rw (mended_yes h c b s k e) (f e)
      by false e f g = rw (mended_no h c b s k e) (g e)

  -- a store that holds the root alone, with the opening's value
  module _ (R : RootLast h b) (s : List ℕ) (room : Room (positions h) s) (alone : (q : ℕ) → 1 ≤ q → q < positions h → held_at s q ≡ eqb q 1)
      (value : hash_at s 1 ≡ root_in b) where
    last_root : (layer_in b (place_count b - 1) ≡ h) × (index_in b (place_count b - 1) ≡ 0)
    last_root =
        record_at h c b (place_count b) G (place_count b - 1) h 0 (omega (arith, R.some)) (omega arith) (pow_pos (h - h)) (omega (arith, R.rank, rank_root h))

    one_held : held_at s 1 ≡ true
    one_held = alone 1 (omega arith) (positions_some h)

    begun : Stage s (place_count b - 1)
    begun =
        record {
          room = room;
          low = omega (arith, R.some);
          right =
              λ l i v lh ib H.
              let r = node_number_range h l i ib in
              let lq : node_number h l i < positions h = unfold positions in r.1 in
              let e : node_number h l i ≡ 1 = eqb-true (node_number h l i) 1 (sym (alone (node_number h l i) r.0 lq) ∙ H.0) in
              let w = node_number_distinct h l i h 0 lh (omega arith) ib (pow_pos (h - h)) (e ∙ sym (node_number_root h)) in
              let root : Placed b (place_count b) h 0 (root_in b) = record { k = place_count b - 1; low = omega (arith, R.some); layer = last_root.0; index = last_root.1; hash = R.hash } in
              top w.0 w.1 (sym H.1 ∙ ap (hash_at s) e ∙ value) root;
          all =
              λ m a l K.
              let e : m ≡ place_count b - 1 = omega arith in
              let n : number m ≡ 1 = ap number e ∙ ap₂ (λ (x y : ℕ). node_number h x y) last_root.0 last_root.1 ∙ node_number_root h in
              (ap (held_at s) n ∙ one_held, ap (hash_at s) n ∙ value ∙ sym R.hash ∙ ap (hash_in b) (sym e));
          apart = λ m e K z n. omega (arith, R.rank);
        }

    -- THE REPAIR: afterwards position i of layer l is held with v exactly if it is kept
    pub mended_exactly : (l i : ℕ) (v : List ℕ) → l ≤ h → i < 2 ^ (h - l)
        → Hold (mended h c b s (place_count b - 1)) (node_number h l i) v ↔ Kept h c (root_in b) (Placed b (place_count b)) l i v
    mended_exactly l i v lh ib =
        let E = ends (place_count b - 1) s begun in (
          E.right l i v lh ib,
          λ K.
              let X = kept_within h c (root_in b) (Placed b (place_count b)) l i v K in
              let K2 : KeptRecord X.k = rw (X.layer, X.index, X.hash) K in
              let H = E.all X.k X.low K2 in
              let e : number X.k ≡ node_number h l i = ap₂ (λ (x y : ℕ). node_number h x y) X.layer X.index in
              (ap (held_at (mended h c b s (place_count b - 1))) (sym e) ∙ H.0, ap (hash_at (mended h c b s (place_count b - 1))) (sym e) ∙ H.1 ∙ X.hash),
        )
