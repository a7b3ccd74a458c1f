-- The counts beside a repair: the positions then held, and those that are not, of all that the bytes name.
-- Assumes nothing.
use Rattle.std.specs.Prelude.{◌≡◌, Bool, true, false, List, ℕ, zero, suc, ◌+◌, ◌-◌, ◌*◌, ◌≤◌, ◌<◌}
use Rattle.std.proofs.Math.Path.{refl, ap}
use Rattle.std.proofs.Common.{ap₂, sym, ◌∙◌, arith, ne_eqb}
use Rattle.std.proofs.Math.Decide.{ℕ_discrete}
use Rattle.std.proofs.Math.ListN.{length}
use Rattle.std.proofs.Math.Pow.{pow_pos}
use Rattle.octets.specs.OctetsLaws.{cut_length}
use Rattle.tree.specs.Geometry.{node_number}
use Rattle.tree.proofs.GeometryLaws.{node_number_range, node_number_distinct, layer_doubles}
use Rattle.cells.specs.Cells.{Room, held_at, put}
use Rattle.cells.specs.CellsLaws.{put_room, held_put_same, held_put_other}
use Rattle.cells.specs.Entries.{one_if}
use Rattle.store.specs.Store.{positions}
use Rattle.store.specs.StoreLaws.{held_count, opened_held, opened_count}
use Rattle.saved.specs.Form.{length_in, piece_length_in, root_in, blocks_in, height_in, place_count, layer_in, index_in, hash_in, rank, places_good}
use Rattle.saved.specs.Saved.{joins, with_place, mended, mended_many, opening_number, rooted, begun, repaired, repaired_many}
use Rattle.saved.proofs.SoundLaws.{place_at, place_says, PlaceIn, one_record, not_root, rooted_formed}
use Rattle.saved.proofs.PrefixLaws.{FormIn, form_says}
use Rattle.saved.proofs.LoadLaws.{Opens, opening_says, root_long, first, first_room}
use Rattle.saved.proofs.MendedLaws.{mended_yes, mended_no, mended_none, mended_one, many_yes, many_no, many_none, many_one}

-- a position that was not held is put
module _ (s : List ℕ) (M n : ℕ) (room : Room M s) (low : n < M) (v : List ℕ) (size : length v ≡ 32) (new : held_at s n ≡ false) where
  below_same : (k : ℕ) → k < n → held_count k (put s n v) ≡ held_count k s
  unfolding held_count
  below_same zero l = refl
  below_same (suc k) l =
      let e : one_if (held_at (put s n v) (suc k)) ≡ one_if (held_at s (suc k)) = ap one_if (held_put_other s M n room low v size (suc k) (λ q. omega arith)) in
      omega (arith, below_same k (omega arith))

  one_more_held : (k : ℕ) → 1 ≤ n → n ≤ k → held_count k (put s n v) ≡ held_count k s + 1
  unfolding held_count
  one_more_held zero a l = absurd (omega arith)
  one_more_held (suc k) a l = by (ℕ_discrete n (suc k)) (λ b. one_more_held k a b)
    where
      by : Dec (n ≡ suc k) → (n ≤ k → held_count k (put s n v) ≡ held_count k s + 1) → held_count (suc k) (put s n v) ≡ held_count (suc k) s + 1
      by (yes e) more =
          let x : one_if (held_at (put s n v) (suc k)) ≡ 1 = ap (λ (q : ℕ). one_if (held_at (put s n v) q)) (sym e) ∙ ap one_if (held_put_same s M n room low v size) in
          let y : one_if (held_at s (suc k)) ≡ 0 = ap (λ (q : ℕ). one_if (held_at s q)) (sym e) ∙ ap one_if new in
          unfold held_count in omega (arith, below_same k (omega arith))
      by (no ne) more =
          let x : one_if (held_at (put s n v) (suc k)) ≡ one_if (held_at s (suc k)) = ap one_if (held_put_other s M n room low v size (suc k) (λ q. ne (sym q))) in
          unfold held_count in omega (arith, more (omega arith))

-- as many are kept as there are records at most
many_few : (h c : ℕ) (b : List ℕ) (k : ℕ) (s : List ℕ) → mended_many h c b s k ≤ k
many_few h c b zero s = rw (many_none h c b s) (omega arith)
many_few h c b (suc zero) s = rw (many_one h c b s) (omega arith)
many_few h c b (suc (suc k)) s = by (joins h c b s k) refl (many_few h c b k (with_place h b (with_place h b s k) (k + 1))) (many_few h c b (suc k) s)
  where
    by : (x : Bool) → joins h c b s k ≡ x → mended_many h c b (with_place h b (with_place h b s k) (k + 1)) k ≤ k → mended_many h c b s (suc k) ≤ suc k → mended_many h c b s (suc (suc k)) ≤ suc (suc k)
    by true e x y = rw (many_yes h c b s k e) (omega arith)
    by false e x y = rw (many_no h c b s k e) (omega arith)

module _ (h c : ℕ) (b : List ℕ) (G : places_good h b (place_count b) ≡ true) (long : 45 + 41 * place_count b ≤ length b) where
  abbrev number_of : ℕ → ℕ
  number_of k = node_number h (layer_in b k) (index_in b k)

  -- of a record that is put into a store which does not hold it
  record PutOne (s t : List ℕ) (k : ℕ) : Type 0 where
    room : Room (positions h) t
    one : held_count (positions h - 1) t ≡ held_count (positions h - 1) s + 1
    others : (m : ℕ) → m < place_count b → (m ≡ k → ⊥) → held_at t (number_of m) ≡ held_at s (number_of m)

  put_one : (s : List ℕ) (k : ℕ) → k < place_count b → Room (positions h) s → held_at s (number_of k) ≡ false → PutOne s (with_place h b s k) k
  put_one s k l room new =
      let P : PlaceIn h b k = place_says h b k (place_at h b (place_count b) G k l) in
      let r = node_number_range h (layer_in b k) (index_in b k) P.inside in
      let low : number_of k < positions h = unfold positions in r.1 in
      let size : length (hash_in b k) ≡ 32 = unfold hash_in in cut_length b (54 + 41 * k) 32 (omega (arith, long)) in
      record {
        room = put_room s (positions h) (number_of k) room low (hash_in b k) size;
        one = one_more_held s (positions h) (number_of k) room low (hash_in b k) size new (positions h - 1) r.0 (omega arith);
        others =
            λ m a ne.
            let Q : PlaceIn h b m = place_says h b m (place_at h b (place_count b) G m a) in
            held_put_other s (positions h) (number_of k) room low (hash_in b k) size (number_of m)
            (λ e.
            let w = node_number_distinct h (layer_in b m) (index_in b m) (layer_in b k) (index_in b k) Q.low P.low Q.inside P.inside e in
            ne (one_record h c b (place_count b) G m k a l (ap₂ (λ (x y : ℕ). rank h x y) w.0 w.1)));
      }

  -- as many become held as are kept, if none of the records was
  counts : (k : ℕ) (s : List ℕ) → k ≤ place_count b → Room (positions h) s → ((m : ℕ) → m < k → held_at s (number_of m) ≡ false)
      → held_count (positions h - 1) (mended h c b s k) ≡ held_count (positions h - 1) s + mended_many h c b s k
  counts zero s l r f = rw (mended_none h c b s, many_none h c b s) (omega arith)
  counts (suc zero) s l r f = rw (mended_one h c b s, many_one h c b s) (omega arith)
  counts (suc (suc k)) s l r f =
      let a = put_one s k (omega arith) r (f k (omega arith)) in
      let e : k + 1 ≡ suc k = omega arith in
      let g : held_at (with_place h b s k) (number_of (k + 1)) ≡ false = a.others (k + 1) (omega arith) (λ q. omega arith) ∙ ap (λ (m : ℕ). held_at s (number_of m)) e ∙ f (suc k) (omega arith) in
      let d = put_one (with_place h b s k) (k + 1) (omega arith) a.room g in
      by (joins h c b s k) refl a.one d.one
      (counts k (with_place h b (with_place h b s k) (k + 1)) (omega arith) d.room
      (λ m q. d.others m (omega arith) (λ x. omega arith) ∙ a.others m (omega arith) (λ x. omega arith) ∙ f m (omega arith)))
      (counts (suc k) s (omega arith) r (λ m q. f m (omega arith)))
    where
      by : (x : Bool) → joins h c b s k ≡ x → held_count (positions h - 1) (with_place h b s k) ≡ held_count (positions h - 1) s + 1
          → held_count (positions h - 1) (with_place h b (with_place h b s k) (k + 1)) ≡ held_count (positions h - 1) (with_place h b s k) + 1
          → held_count (positions h - 1) (mended h c b (with_place h b (with_place h b s k) (k + 1)) k) ≡ held_count (positions h - 1) (with_place h b (with_place h b s k) (k + 1)) + mended_many h c b (with_place h b (with_place h b s k) (k + 1)) k
          → held_count (positions h - 1) (mended h c b s (suc k)) ≡ held_count (positions h - 1) s + mended_many h c b s (suc k)
          → held_count (positions h - 1) (mended h c b s (suc (suc k))) ≡ held_count (positions h - 1) s + mended_many h c b s (suc (suc k))
      by true q u v x y = rw (mended_yes h c b s k q, many_yes h c b s k q) (omega arith)
      by false q u v x y = rw (mended_no h c b s k q, many_no h c b s k q) y

module _ (s b : List ℕ) (z : opening_number (length s) b ≡ 0) (g : rooted b ≡ true) where
  form : FormIn b
  form = form_says b (rooted_formed b g)

  opening : Opens (length s) b
  opening = opening_says (length s) b z

  -- only the last record is the root
  above_one : (m : ℕ) → m + 1 < place_count b → 2 ≤ node_number (height_in b) (layer_in b m) (index_in b m)
  unfolding node_number
  above_one m l =
      let lt = not_root (height_in b) (blocks_in b) b (place_count b) form.places m l in
      omega (arith, layer_doubles (height_in b) (layer_in b m) lt, pow_pos (height_in b - suc (layer_in b m)))

  fresh : (m : ℕ) → m < place_count b - 1 → held_at (begun s b) (node_number (height_in b) (layer_in b m) (index_in b m)) ≡ false
  fresh m l =
      let P : PlaceIn (height_in b) b m = place_says (height_in b) b m (place_at (height_in b) b (place_count b) form.places m (omega arith)) in
      let r = node_number_range (height_in b) (layer_in b m) (index_in b m) P.inside in
      let low : node_number (height_in b) (layer_in b m) (index_in b m) < positions (height_in b) = unfold positions in r.1 in
      let two = above_one m (omega arith) in
      opened_held s (length_in b) (piece_length_in b) (root_in b) opening.range opening.room (root_long b opening.whole) (node_number (height_in b) (layer_in b m) (index_in b m)) r.0 low
      ∙ ne_eqb (node_number (height_in b) (layer_in b m) (index_in b m)) 1 (λ q. omega arith)

  -- THE COUNT beside a repair is the positions then held,
  pub repair_counts : held_count (positions (height_in b) - 1) (repaired s b) ≡ repaired_many s b
  unfolding repaired repaired_many
  repair_counts =
      let one = opened_count s (length_in b) (piece_length_in b) (root_in b) opening.range opening.room (root_long b opening.whole) in
      let w =
      counts (height_in b) (blocks_in b) b form.places (omega (arith, form.size)) (place_count b - 1) (begun s b) (omega arith)
      (unfold first in first_room s b opening form) fresh in
      omega (arith, one, w)

  -- and there are no more of them than the bytes name: the others are those dropped
  pub repair_few : 1 ≤ place_count b → repaired_many s b ≤ place_count b
  unfolding repaired_many
  repair_few l = omega (arith, many_few (height_in b) (blocks_in b) b (place_count b - 1) (begun s b))
