-- A repaired store has no mark.
-- Assumes nothing.
use Rattle.std.specs.Prelude.{◌≡◌, refl, Bool, true, false, List, ℕ, zero, suc, ◌+◌, ◌-◌, ◌*◌, ◌^◌, ◌≤◌, ◌<◌, get_or}
use Rattle.std.proofs.Math.Path.{ap}
use Rattle.std.proofs.Common.{sym, ◌∙◌, arith}
use Rattle.std.proofs.lemmas.Bool.{false≢true}
use Rattle.std.proofs.Math.ListN.{length}
use Rattle.std.proofs.Math.Dec.{eqb}
use Rattle.octets.specs.OctetsLaws.{cut_length}
use Rattle.numbers.specs.Numbers.{done}
use Rattle.tree.specs.Geometry.{node_number}
use Rattle.tree.proofs.GeometryLaws.{node_number_range}
use Rattle.cells.specs.Cells.{Room}
use Rattle.cells.specs.CellsLaws.{put_room, put_outside}
use Rattle.store.specs.Store.{height_of, positions, store_size}
use Rattle.store.specs.StoreLaws.{opened_zero, positions_some, facts_leaves}
use Rattle.marks.specs.Marks.{marks_start, marked_at, marked_answer}
use Rattle.saved.specs.Form.{length_in, piece_length_in, root_in, blocks_in, height_in, place_count, layer_in, index_in, hash_in}
use Rattle.saved.specs.Saved.{joins, with_place, mended, opening_number, rooted, begun, repaired, repair_answer, repair_after}
use Rattle.saved.proofs.SoundLaws.{place_at, place_says, rooted_formed}
use Rattle.saved.proofs.PrefixLaws.{FormIn, form_says}
use Rattle.saved.proofs.LoadLaws.{Opens, opening_says, root_long, first, first_room}
use Rattle.saved.proofs.MendedLaws.{mended_yes, mended_no, mended_none, mended_one}
use Rattle.saved.proofs.RepairedLaws.{repaired_facts, repaired_height}
use Rattle.knowledge.specs.SavedWhen.{repair_0}
use Rattle.knowledge.specs.MarksSince.{marked_says}

module _ (s b : List ℕ) (z : opening_number (length s) b ≡ 0) (g : rooted b ≡ true) where
  form : FormIn b
  form = form_says b (rooted_formed b g)

  opening : Opens (length s) b
  opening = opening_says (length s) b z

  -- a position that is put leaves the bytes behind the cells
  place_past : (t : List ℕ) (k : ℕ) → k < place_count b → Room (positions (height_in b)) t → (i : ℕ) → 31 + 33 * positions (height_in b) ≤ i
      → Room (positions (height_in b)) (with_place (height_in b) b t k) × (get_or (with_place (height_in b) b t k) i 0 ≡ get_or t i 0)
  place_past t k l room i a =
      let r = node_number_range (height_in b) (layer_in b k) (index_in b k) (place_says (height_in b) b k (place_at (height_in b) b (place_count b) form.places k l)).inside in
      let low : node_number (height_in b) (layer_in b k) (index_in b k) < positions (height_in b) = unfold positions in r.1 in
      let size : length (hash_in b k) ≡ 32 = unfold hash_in in cut_length b (54 + 41 * k) 32 (omega (arith, form.size)) in (
        put_room t (positions (height_in b)) (node_number (height_in b) (layer_in b k) (index_in b k)) room low (hash_in b k) size,
        put_outside t (positions (height_in b)) (node_number (height_in b) (layer_in b k) (index_in b k)) room low (hash_in b k) size i (λ c. omega arith),
      )

  mended_past : (k : ℕ) (t : List ℕ) → k ≤ place_count b → Room (positions (height_in b)) t → (i : ℕ) → 31 + 33 * positions (height_in b) ≤ i
      → get_or (mended (height_in b) (blocks_in b) b t k) i 0 ≡ get_or t i 0
  mended_past zero t l room i a = rw (mended_none (height_in b) (blocks_in b) b t)
  mended_past (suc zero) t l room i a = rw (mended_one (height_in b) (blocks_in b) b t)
  mended_past (suc (suc k)) t l room i a =
      let p = place_past t k (omega arith) room i a in
      let q = place_past (with_place (height_in b) b t k) (k + 1) (omega arith) p.0 i a in
      by (joins (height_in b) (blocks_in b) b t k) refl
      (mended_past k (with_place (height_in b) b (with_place (height_in b) b t k) (k + 1)) (omega arith) q.0 i a ∙ q.1 ∙ p.1)
      (mended_past (suc k) t (omega arith) room i a)
    where
      by : (x : Bool) → joins (height_in b) (blocks_in b) b t k ≡ x → get_or (mended (height_in b) (blocks_in b) b (with_place (height_in b) b (with_place (height_in b) b t k) (k + 1)) k) i 0 ≡ get_or t i 0
          → get_or (mended (height_in b) (blocks_in b) b t (suc k)) i 0 ≡ get_or t i 0 → get_or (mended (height_in b) (blocks_in b) b t (suc (suc k))) i 0 ≡ get_or t i 0
      by true e x y = rw (mended_yes (height_in b) (blocks_in b) b t k e) x
      by false e x y = rw (mended_no (height_in b) (blocks_in b) b t k e) y

  pub repaired_past : (i : ℕ) → 31 + 33 * positions (height_in b) ≤ i → get_or (repaired s b) i 0 ≡ get_or (begun s b) i 0
  unfolding repaired
  repaired_past i a = mended_past (place_count b - 1) (begun s b) (omega arith) (unfold first in first_room s b opening form) i a

  begun_zero : (j : ℕ) → j < 2 ^ height_in b → get_or (begun s b) (31 + 33 * positions (height_in b) + j) 0 ≡ 0
  unfolding store_size
  begun_zero j l =
      let two = positions_some (height_in b) in
      opened_zero s (length_in b) (piece_length_in b) (root_in b) opening.range opening.room (root_long b opening.whole) (31 + 33 * positions (height_in b) + j) (omega arith) (omega arith)

  -- no byte of a mark is set
  pub none_set : (j : ℕ) → j < 2 ^ height_in b → marked_at (repaired s b) j ≡ false
  unfolding marked_at marks_start
  none_set j l =
      ap (λ (h : ℕ). eqb (get_or (repaired s b) (31 + 33 * positions h + j) 0) 1) (repaired_height s b z g)
      ∙ ap (λ (x : ℕ). eqb x 1) (repaired_past (31 + 33 * positions (height_in b) + j) (omega arith) ∙ begun_zero j l)

  -- NO BLOCK is marked
  none_marked : (j : ℕ) → marked_answer (repaired s b) j ≡ done 1 → ⊥
  none_marked j m =
      let f = repaired_facts s b z g in
      let w = (marked_says (repaired s b) f j).0 m in
      let l : j < 2 ^ height_of (repaired s b) = omega (arith, w.0, facts_leaves (repaired s b) f) in
      false≢true (sym (none_set j (rw (repaired_height s b z g) at l)) ∙ w.1)

pub repair_clears : (s b : List ℕ) → (repair_answer s b).number ≡ 0 → (j : ℕ) → marked_answer (repair_after s b) j ≡ done 1 → ⊥
repair_clears s b z j m = let w = repair_0 s b z in none_marked s b w.0 w.1 j (rw w.2 at m)
