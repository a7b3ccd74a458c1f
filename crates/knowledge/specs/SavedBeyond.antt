-- Bytes behind the store decide nothing about its save: two memories that agree up to its size have the same save.
-- Assumes nothing.
use Rattle.std.specs.Prelude.{◌≡◌, List, ◌++◌, ℕ, zero, suc, ◌-◌, ◌^◌, ◌≤◌, ◌<◌}
use Rattle.std.proofs.Math.Path.{refl, ap₂}
use Rattle.std.proofs.Common.{arith}
use Rattle.octets.specs.Octets.{cut}
use Rattle.tree.specs.Geometry.{node_number}
use Rattle.tree.proofs.GeometryLaws.{node_number_range}
use Rattle.store.specs.Store.{file_length, blocks_of, height_of, positions, store_size, Facts, SameFacts}
use Rattle.store.specs.StoreLaws.{facts_usable, facts_leaves, used_same, used_facts}
use Rattle.saved.specs.Form.{Place}
use Rattle.saved.specs.Save.{place_held, layer_held, held_below, block_marked, marked_below, saved_of, save_answer, save_after}
use Rattle.knowledge.specs.Alike.{Alike, alike}
use Rattle.knowledge.specs.MarksBeyond.{mark_used}

module _ (s t : List ℕ) (f : Facts s) (e : cut t 0 (store_size (file_length s)) ≡ cut s 0 (store_size (file_length s))) where
  both : Alike s t
  both = alike s t f e

  facts_same : SameFacts s t
  facts_same = used_same s t f e

  number_below : (l i : ℕ) → i < 2 ^ (height_of s - l) → node_number (height_of s) l i < positions (height_of s)
  unfolding positions
  number_below l i b = (node_number_range (height_of s) l i b).1

  place_used : (l i : ℕ) → i < 2 ^ (height_of s - l) → place_held t (height_of s) l i ≡ place_held s (height_of s) l i
  place_used l i b = rw (both.held (node_number (height_of s) l i) (number_below l i b), both.hash (node_number (height_of s) l i) (number_below l i b))

  layer_used : (l w : ℕ) → w ≤ 2 ^ (height_of s - l) → layer_held t (height_of s) l w ≡ layer_held s (height_of s) l w
  unfolding layer_held
  layer_used l zero b = refl
  layer_used l (suc w) b = ap₂ (λ (x y : List Place). x ++ y) (layer_used l w (omega arith)) (place_used l w (omega arith))

  below_used : (l : ℕ) → held_below t (height_of s) l ≡ held_below s (height_of s) l
  unfolding held_below
  below_used zero = refl
  below_used (suc l) = ap₂ (λ (x y : List Place). x ++ y) (below_used l) (layer_used l (2 ^ (height_of s - l)) (omega arith))

  block_used : (i : ℕ) → i < 2 ^ height_of s → block_marked t i ≡ block_marked s i
  block_used i l = rw (mark_used s t f e i l)

  marks_used : (n : ℕ) → n ≤ 2 ^ height_of s → marked_below t n ≡ marked_below s n
  unfolding marked_below
  marks_used zero l = refl
  marks_used (suc n) l = ap₂ (λ (x y : List ℕ). x ++ y) (marks_used n (omega arith)) (block_used n (omega arith))

  saved_used : saved_of t ≡ saved_of s
  unfolding saved_of
  saved_used =
      rw (facts_same.file, facts_same.piece, facts_same.root, facts_same.layers, facts_same.blocks, below_used (suc (height_of s)), marks_used (blocks_of s) (facts_leaves s f))

  -- the same answer, and the same bytes
  pub save_beyond : (out : List ℕ) → (save_answer t out ≡ save_answer s out) × (save_after t out ≡ save_after s out)
  unfolding save_answer save_after
  save_beyond out = rw (facts_usable t (used_facts s t f e), facts_usable s f, saved_used) (refl, refl)
