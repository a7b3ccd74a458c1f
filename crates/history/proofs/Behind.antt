-- 02, request 1, of histories too: bytes of the block's tail behind its length never matter. Two states that differ in them alone get the same
-- numbers, leave the same layer and end alike; and after a burst they differ in such bytes alone again.
-- Assumes nothing.
use Rattle.std.specs.Prelude.{◌≡◌, Bool, ℕ, length, eqb, List, [], ◌∷◌}
use Rattle.std.proofs.Math.Path.{refl, ap, ap₂}
use Rattle.std.proofs.Common.{◌∙◌}
use Rattle.std.proofs.Math.Bool.{true, false, cond}
use Rattle.octets.specs.Octets.{zero_hash}
use Rattle.running.specs.Bursts.{absorbed, hash_of}
use Rattle.running.specs.BurstsLaws.{same_said}
use Rattle.running.specs.Cuttings.{SameButBehind, same_says}
use Rattle.running.specs.declared.Hashing.{Hashing}
use Rattle.tree.specs.Geometry.{block_count, height, piece_layer}
use Rattle.history.specs.Growing.{grown, grown_by, noted, noted_by, open_leaf, open_node, last_node, root_of}
use Rattle.history.specs.Answers.{possible_counts, no_room_for, more_number, more_answer, more_layer, layer_size, end_number, end_answer, with_last, end_layer}
use Rattle.history.specs.declared.History.{History}

pub record SameHistory (s t : History) : Type 0 where
  pub same_pieces : s.piece_length ≡ t.piece_length
  pub same_length : s.length ≡ t.length
  pub same_nodes : s.nodes ≡ t.nodes
  pub same_block : SameButBehind s.block t.block

-- one state is the same as itself
same_block_self : (s : Hashing) → SameButBehind s s
same_block_self s = record { same_words = refl; same_size = refl; same_total = refl; same_tail = refl }

same_self : (s t : History) → s ≡ t → SameHistory s t
same_self s t e = rw e (record { same_pieces = refl; same_length = refl; same_nodes = refl; same_block = same_block_self t.block })

module _ (s t : History) (e : SameHistory s t) where
  hash_same : hash_of s.block ≡ hash_of t.block
  hash_same = (same_said s.block t.block [] (same_says s.block t.block e.same_block)).1

  absorbed_same : (ys : List ℕ) → absorbed s.block ys ≡ absorbed t.block ys
  absorbed_same ys = (same_said s.block t.block ys (same_says s.block t.block e.same_block)).0

  -- a byte more leads to one state
  grown_same : (y : ℕ) → grown s y ≡ grown t y
  unfolding grown
  grown_same y = cc (e.same_pieces, e.same_length, e.same_nodes, absorbed_same (y ∷ []))

  noted_same : (layer : List ℕ) → noted s layer ≡ noted t layer
  unfolding noted
  noted_same layer = cc (e.same_pieces, e.same_length, e.same_nodes)

  grown_by_same : (ys : List ℕ) → SameHistory (grown_by s ys) (grown_by t ys)
  unfolding grown_by
  grown_by_same [] = e
  grown_by_same (y ∷ ys) = same_self (grown_by (grown s y) ys) (grown_by (grown t y) ys) (ap (λ (h : History). grown_by h ys) (grown_same y))

  noted_by_same : (ys layer : List ℕ) → noted_by s layer ys ≡ noted_by t layer ys
  unfolding noted_by
  noted_by_same [] layer = refl
  noted_by_same (y ∷ ys) layer = ap₂ (λ (h : History) (l : List ℕ). noted_by h l ys) (grown_same y) (noted_same layer)

  possible_same : possible_counts s ≡ possible_counts t
  unfolding possible_counts
  possible_same = cc (e.same_pieces, e.same_length, e.same_block.same_size, e.same_block.same_total)

  room_same : (k m : ℕ) → no_room_for s k m ≡ no_room_for t k m
  unfolding no_room_for
  room_same k m = cc (e.same_pieces, e.same_length)

  number_same : (k m : ℕ) → more_number s k m ≡ more_number t k m
  unfolding more_number
  number_same k m = cc (possible_same, room_same k m, e.same_length)

  size_same : layer_size s ≡ layer_size t
  unfolding layer_size
  size_same = cc (e.same_pieces, e.same_length)

  end_number_same : (m : ℕ) → end_number s m ≡ end_number t m
  unfolding end_number
  end_number_same m = cc (possible_same, size_same)

  leaf_same : open_leaf s ≡ open_leaf t
  unfolding open_leaf
  leaf_same = cc (e.same_length, hash_same)

  last_same : (k : ℕ) → last_node s k ≡ last_node t k
  unfolding last_node open_node
  last_same k = cc (e.same_length, e.same_nodes, leaf_same)

  root_same : root_of s ≡ root_of t
  unfolding root_of
  root_same = ap₂ (λ (n : ℕ) (h : List ℕ). cond (eqb n 0) zero_hash h) e.same_length (last_same (height (block_count s.length)) ∙ ap (λ (n : ℕ). last_node t (height (block_count n))) e.same_length)

  with_last_same : (layer : List ℕ) → with_last s layer ≡ with_last t layer
  unfolding with_last
  with_last_same layer = cc (e.same_pieces, e.same_length, size_same, last_same (piece_layer s.piece_length))

  -- kd_history_more: the number, the state that is handed back, the layer
  pub behind_more : (ys layer : List ℕ)
      → ((more_answer s ys layer).number ≡ (more_answer t ys layer).number) × SameHistory (more_answer s ys layer).history (more_answer t ys layer).history
      × (more_layer s ys layer ≡ more_layer t ys layer)
  unfolding more_answer more_layer
  behind_more ys layer =
      let n = number_same (length ys) (length layer) in
      (n, rw n (by_number (eqb (more_number t (length ys) (length layer)) 0)), cc (n, noted_by_same ys layer))
    where
      by_number : (b : Bool) → SameHistory (cond b (grown_by s ys) s) (cond b (grown_by t ys) t)
      by_number true = grown_by_same ys
      by_number false = e

  -- kd_history_end: the answer, the layer
  pub behind_end : (layer : List ℕ) → (end_answer s layer ≡ end_answer t layer) × (end_layer s layer ≡ end_layer t layer)
  unfolding end_answer end_layer
  behind_end layer =
      let n = end_number_same (length layer) in
      (cc (n, e.same_length, root_same, size_same), cc (n, with_last_same layer))

-- BYTES BEHIND THE TAIL never matter
pub behind_the_tail : (s t : History) → SameHistory s t → (ys layer : List ℕ)
    → (((more_answer s ys layer).number ≡ (more_answer t ys layer).number) × SameHistory (more_answer s ys layer).history (more_answer t ys layer).history
    × (more_layer s ys layer ≡ more_layer t ys layer))
    × ((end_answer s layer ≡ end_answer t layer) × (end_layer s layer ≡ end_layer t layer))
behind_the_tail s t e ys layer = (behind_more s t e ys layer, behind_end s t e layer)
