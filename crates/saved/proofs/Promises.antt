-- 02, request 13: accepted exactly when; saved and loaded; what the repair holds. By node number; as kd_held answers it stands in promises.
-- Assumes nothing.
use Rattle.std.specs.Prelude.{◌≡◌, true, ◌&&◌, List, ◌↔◌, ℕ, suc, ◌+◌, ◌-◌, ◌*◌, ◌^◌, ◌≤◌, ◌<◌, length, get_or}
use Rattle.std.proofs.Math.Bool.{and-eq-true_iff}
use Rattle.std.proofs.Common.{arith}
use Rattle.sha256.specs.Sha256.{pair_hash}
use Rattle.settling.specs.Path.{sibling}
use Rattle.tree.specs.Geometry.{node_number}
use Rattle.cells.specs.EntriesLaws.{Hold}
use Rattle.store.specs.Store.{facts_root, blocks_of, height_of, Facts}
use Rattle.store.specs.StoreLaws.{facts_blocks, opened_held, opened_hash}
use Rattle.saved.specs.Clauses.{Hashes, Clauses, Within, Kept}
use Rattle.saved.proofs.ClausesLaws.{loads_when_all_kept}
use Rattle.saved.specs.Form.{saved_bytes, length_in, piece_length_in, root_in, blocks_in, height_in, place_count, formed, Placed}
use Rattle.saved.specs.Saved.{root_right, chained, sound, opening_number, rooted, repaired, begun}
use Rattle.saved.specs.Save.{saved_of}
use Rattle.saved.proofs.SoundLaws.{placed_in_tree}
use Rattle.saved.proofs.SoundExactly.{root_says, sound_exactly}
use Rattle.saved.proofs.PrefixLaws.{form_says}
use Rattle.saved.proofs.LoadLaws.{Opens, opening_says, root_long, first_room, first}
use Rattle.saved.proofs.MendedLaws.{mended_exactly}
use Rattle.saved.proofs.SaveLaws.{saved_reads, saved_exactly, read_blocks, read_height, saved_root}

-- the clauses of one set are those of another with the same positions and hashes
pub clauses_same : (h c : ℕ) (root : List ℕ) (R S : Hashes) → ((l i : ℕ) (v : List ℕ) → R l i v ↔ S l i v) → Clauses h c root R → Clauses h c root S
clauses_same h c root R S e K =
    record {
      root = (e h 0 root).0 K.root;
      beside = λ l i x lt s. let y = K.beside l i x lt ((e l i x).1 s) in (y.0, (e l (sibling i) y.0).0 y.1);
      above = λ l i x y lt a b. (e (suc l) i (pair_hash x y)).0 (K.above l i x y lt ((e l (2 * i) x).1 a) ((e l (2 * i + 1) y).1 b));
      padding = λ l i v s pd. K.padding l i v ((e l i v).1 s) pd;
    }

-- what a store holds, by layer and index
abbrev pub HeldIn : List ℕ → Hashes
HeldIn s l i v = (l ≤ height_of s) × (i < 2 ^ (height_of s - l)) × Hold s (node_number (height_of s) l i) v

module _ (b : List ℕ) (some : 1 ≤ blocks_in b) where
  sound_tests : sound b ≡ true → (formed b ≡ true) × (root_right (height_in b) b ≡ true) × (chained (height_in b) (blocks_in b) b ≡ true)
  unfolding sound
  sound_tests g =
      let x = (and-eq-true_iff (formed b && root_right (height_in b) b) (chained (height_in b) (blocks_in b) b)).0 g in
      let y = (and-eq-true_iff (formed b) (root_right (height_in b) b)).0 x.0 in
      (y.0, y.1, x.1)

  tests_sound : formed b ≡ true → root_right (height_in b) b ≡ true → chained (height_in b) (blocks_in b) b ≡ true → sound b ≡ true
  unfolding sound
  tests_sound x y z =
      (and-eq-true_iff (formed b && root_right (height_in b) b) (chained (height_in b) (blocks_in b) b)).1 ((and-eq-true_iff (formed b) (root_right (height_in b) b)).1 (x, y), z)

  -- "The loader accepts exactly when the bytes have this form" and what they name meets the clauses
  pub accepted_exactly_when : (sound b ≡ true) ↔ ((formed b ≡ true) × Clauses (height_in b) (blocks_in b) (root_in b) (Placed b (place_count b)))
  accepted_exactly_when = (
    λ g. let t = sound_tests g in (t.0, (sound_exactly (height_in b) (blocks_in b) b some (form_says b t.0).places).0 (t.1, t.2)),
    λ w. let t = (sound_exactly (height_in b) (blocks_in b) b some (form_says b w.0).places).1 w.1 in tests_sound w.0 t.0 t.1,
  )

  -- and exactly when the repair would drop nothing
  pub accepted_when_all_kept : formed b ≡ true
      → (sound b ≡ true) ↔ (Placed b (place_count b) (height_in b) 0 (root_in b) × Within (Placed b (place_count b)) (Kept (height_in b) (blocks_in b) (root_in b) (Placed b (place_count b))))
  accepted_when_all_kept f =
      let T = placed_in_tree (height_in b) (blocks_in b) b (place_count b) (form_says b f).places in
      let w = loads_when_all_kept (height_in b) (blocks_in b) (root_in b) (Placed b (place_count b)) T some in
      (λ g. w.0 (accepted_exactly_when.0 g).1, λ k. accepted_exactly_when.1 (f, w.1 k))

-- SAVED AND LOADED: a store of bytes that meets the clauses is saved as bytes that load, into any buffer with room, as a store that holds the same
module _ (s : List ℕ) (f : Facts s) (bytes : (i : ℕ) → get_or s i 0 < 256) (K : Clauses (height_of s) (blocks_of s) (facts_root s) (HeldIn s)) where
  pub saved_loads : sound (saved_bytes (saved_of s)) ≡ true
  saved_loads =
      let b = saved_bytes (saved_of s) in
      let C = clauses_same (height_of s) (blocks_of s) (facts_root s) (HeldIn s) (Placed (saved_bytes (saved_of s)) (place_count (saved_bytes (saved_of s)))) (λ l i v. ((saved_exactly s f bytes l i v).1, (saved_exactly s f bytes l i v).0)) K in
      (accepted_exactly_when (saved_bytes (saved_of s)) (rw (read_blocks s f bytes) (facts_blocks s f))).1
      ((saved_reads s f bytes).1, rw (read_height s f bytes, read_blocks s f bytes, saved_root s f bytes) C)

-- THE REPAIR holds exactly what is kept: the largest part that meets the clauses
module _ (s b : List ℕ) (z : opening_number (length s) b ≡ 0) (g : rooted b ≡ true) where
  tests : (formed b ≡ true) × (root_right (height_in b) b ≡ true)
  unfolding rooted
  tests = (and-eq-true_iff (formed b) (root_right (height_in b) b)).0 g

  O : Opens (length s) b
  O = opening_says (length s) b z

  pub repaired_exactly : (l i : ℕ) (v : List ℕ) → l ≤ height_in b → i < 2 ^ (height_in b - l)
      → Hold (repaired s b) (node_number (height_in b) l i) v ↔ Kept (height_in b) (blocks_in b) (root_in b) (Placed b (place_count b)) l i v
  unfolding repaired
  repaired_exactly =
      let F = form_says b tests.0 in
      mended_exactly (height_in b) (blocks_in b) b F.places (omega (arith, F.size)) (root_says (height_in b) b tests.1) (begun s b)
      (unfold first in first_room s b O F)
      (λ q a l. opened_held s (length_in b) (piece_length_in b) (root_in b) O.range O.room (root_long b O.whole) q a l)
      (opened_hash s (length_in b) (piece_length_in b) (root_in b) O.range O.room (root_long b O.whole))
