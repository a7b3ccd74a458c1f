-- "A loaded store counts as one that only this build has written": what is loaded, and what is repaired, meets the four clauses as kd_held answers.
-- Assumes nothing.
use Rattle.std.specs.Prelude.{◌≡◌, true, List, ◌↔◌, ℕ, ◌-◌, ◌^◌, ◌≤◌, ◌<◌, length}
use Rattle.std.proofs.Common.{subst, arith, pow_pos}
use Rattle.std.proofs.Math.Bool.{and-eq-true_iff}
use Rattle.tree.specs.Geometry.{node_number}
use Rattle.cells.specs.EntriesLaws.{Hold}
use Rattle.store.specs.Store.{facts_root, blocks_of, height_of, Facts}
use Rattle.store.specs.StoreLaws.{tree_says}
use Rattle.words.specs.Held.{Holds}
use Rattle.words.specs.FourClauses.{FourClauses}
use Rattle.knowledge.specs.Again.{what_is_held}
use Rattle.knowledge.specs.ReadBack.{holds_at}
use Rattle.knowledge.specs.Invariant.{Ours}
use Rattle.knowledge.specs.FourClauses.{four_clauses_exactly}
use Rattle.saved.specs.Clauses.{Clauses, InTree, Kept}
use Rattle.saved.proofs.ClausesLaws.{kept_within, kept_clauses}
use Rattle.saved.specs.Form.{root_in, blocks_in, height_in, place_count, formed, Placed}
use Rattle.saved.specs.Saved.{opening_number, root_right, sound, loaded, rooted, repaired}
use Rattle.saved.proofs.SoundLaws.{placed_in_tree, record_at, sound_formed}
use Rattle.saved.proofs.SoundExactly.{root_says}
use Rattle.saved.proofs.RankLaws.{rank_root}
use Rattle.saved.proofs.PrefixLaws.{form_says}
use Rattle.saved.proofs.RepairedLaws.{repaired_facts, repaired_height, repaired_blocks, repaired_root}
use Rattle.saved.proofs.LoadedLaws.{loaded_clauses, loaded_exactly}
use Rattle.saved.proofs.RoundTrip.{loaded_facts, loaded_root, loaded_height, loaded_blocks}
use Rattle.saved.proofs.Promises.{clauses_same, HeldIn, repaired_exactly}

-- what kd_held gives is what is held
module _ (s : List ℕ) (f : Facts s) where
  pub holds_exactly : (l i : ℕ) (v : List ℕ) → Holds s l i v ↔ HeldIn s l i v
  holds_exactly l i v = (
    λ k. let w = what_is_held s l i v f k in let t = tree_says (height_of s) l i w.0 in (t.0, t.1, (w.1, w.2)),
    λ w. subst (Holds s l i) w.2.1 (holds_at s l i f w.0 w.1 w.2.0),
  )

  pub four_of : Clauses (height_of s) (blocks_of s) (facts_root s) (HeldIn s) → FourClauses s
  four_of = clauses_same (height_of s) (blocks_of s) (facts_root s) (HeldIn s) (Holds s) (λ l i v. ((holds_exactly l i v).1, (holds_exactly l i v).0))

  pub of_four : FourClauses s → Clauses (height_of s) (blocks_of s) (facts_root s) (HeldIn s)
  of_four = clauses_same (height_of s) (blocks_of s) (facts_root s) (Holds s) (HeldIn s) holds_exactly

module _ (s b : List ℕ) (z : opening_number (length s) b ≡ 0) (g : sound b ≡ true) where
  pub held_in : (l i : ℕ) (v : List ℕ) → Placed b (place_count b) l i v → HeldIn (loaded s b) l i v
  held_in l i v X =
      let T = placed_in_tree (height_in b) (blocks_in b) b (place_count b) (form_says b (sound_formed b g)).places in
      let e = loaded_height s b z g in
      let lh = T.low l i v X in
      let ib = T.inside l i v X in
      rw e (lh, ib, (loaded_exactly s b z g l i v lh ib).1 X)

  pub named_in : (l i : ℕ) (v : List ℕ) → HeldIn (loaded s b) l i v → Placed b (place_count b) l i v
  named_in l i v w =
      let e = loaded_height s b z g in
      let lh : l ≤ height_in b = rw e at w.0 in
      let ib : i < 2 ^ (height_in b - l) = rw e at w.1 in
      let H : Hold (loaded s b) (node_number (height_in b) l i) v = rw e at w.2 in
      (loaded_exactly s b z g l i v lh ib).0 H

  -- A LOADED STORE meets the four clauses,
  pub loaded_four : FourClauses (loaded s b)
  loaded_four =
      let C = clauses_same (height_in b) (blocks_in b) (root_in b) (Placed b (place_count b)) (HeldIn (loaded s b)) (λ l i v. (held_in l i v, named_in l i v)) (loaded_clauses s b z g) in
      four_of (loaded s b) (loaded_facts s b z g) (rw (loaded_height s b z g, loaded_blocks s b z g, loaded_root s b z g) C)

  -- and so is, to every theorem about a store of ours, one of ours
  pub loaded_ours : Ours (loaded s b)
  loaded_ours = (four_clauses_exactly (loaded s b)).0 loaded_four

-- ---- the repair

module _ (s b : List ℕ) (z : opening_number (length s) b ≡ 0) (g : rooted b ≡ true) (some : 1 ≤ blocks_in b) where
  tests : (formed b ≡ true) × (root_right (height_in b) b ≡ true)
  unfolding rooted
  tests = (and-eq-true_iff (formed b) (root_right (height_in b) b)).0 g

  pub tree : InTree (height_in b) (Placed b (place_count b))
  tree = placed_in_tree (height_in b) (blocks_in b) b (place_count b) (form_says b tests.0).places

  root_there : Placed b (place_count b) (height_in b) 0 (root_in b)
  root_there =
      let R = root_says (height_in b) b tests.1 in
      let w = record_at (height_in b) (blocks_in b) b (place_count b) (form_says b tests.0).places (place_count b - 1) (height_in b) 0 (omega (arith, R.some)) (omega arith) (pow_pos (height_in b - height_in b)) (omega (arith, R.rank, rank_root (height_in b))) in
      record { k = place_count b - 1; low = omega (arith, R.some); layer = w.0; index = w.1; hash = R.hash }

  pub kept_in : (l i : ℕ) (v : List ℕ) → Kept (height_in b) (blocks_in b) (root_in b) (Placed b (place_count b)) l i v → HeldIn (repaired s b) l i v
  kept_in l i v X =
      let Y = kept_within (height_in b) (blocks_in b) (root_in b) (Placed b (place_count b)) l i v X in
      let e = repaired_height s b z g in
      let lh = tree.low l i v Y in
      let ib = tree.inside l i v Y in
      rw e (lh, ib, (repaired_exactly s b z g l i v lh ib).1 X)

  pub in_kept : (l i : ℕ) (v : List ℕ) → HeldIn (repaired s b) l i v → Kept (height_in b) (blocks_in b) (root_in b) (Placed b (place_count b)) l i v
  in_kept l i v w =
      let e = repaired_height s b z g in
      let lh : l ≤ height_in b = rw e at w.0 in
      let ib : i < 2 ^ (height_in b - l) = rw e at w.1 in
      let H : Hold (repaired s b) (node_number (height_in b) l i) v = rw e at w.2 in
      (repaired_exactly s b z g l i v lh ib).0 H

  -- A REPAIRED STORE meets the four clauses,
  pub repaired_four : FourClauses (repaired s b)
  repaired_four =
      let C = clauses_same (height_in b) (blocks_in b) (root_in b) (Kept (height_in b) (blocks_in b) (root_in b) (Placed b (place_count b))) (HeldIn (repaired s b)) (λ l i v. (kept_in l i v, in_kept l i v))
      (kept_clauses (height_in b) (blocks_in b) (root_in b) (Placed b (place_count b)) tree some root_there) in
      four_of (repaired s b) (repaired_facts s b z g) (rw (repaired_height s b z g, repaired_blocks s b z g, repaired_root s b z g) C)

  pub repaired_ours : Ours (repaired s b)
  repaired_ours = (four_clauses_exactly (repaired s b)).0 repaired_four
