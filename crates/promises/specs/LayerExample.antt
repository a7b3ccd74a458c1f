-- A layer that is loaded: the two leaves of a file of two blocks, each a piece, on a store opened for it. So what the theorems say of loaded
-- layers is said of something.
-- Assumes nothing.
use Rattle.std.specs.Prelude.{◌≡◌, List, ◌++◌, ℕ, ◌-◌, ◌/◌, ◌≤◌, length, take}
use Rattle.std.proofs.Math.Path.{ap, sym}
use Rattle.std.proofs.Common.{◌∙◌, subst, length-append, take_at, drop_at, lit<, lit≤, arith, eqb-true}
use Rattle.std.proofs.Math.Seq.{take_all}
use Rattle.octets.specs.Octets.{Octets, cut}
use Rattle.sha256.specs.Sha256.{pair_hash}
use Rattle.sha256.specs.Sha256Laws.{pair_octets}
use Rattle.tree.specs.Geometry.{ceil_div, height_from, height, node_number, piece_layer, piece_count}
use Rattle.tree.proofs.GeometryLaws.{node_number_root, node_number_distinct}
use Rattle.tree.specs.Values.{layer_leaf}
use Rattle.cells.specs.Cells.{held_at, hash_at}
use Rattle.store.specs.Store.{height_of, positions, store_size, opened}
use Rattle.store.specs.StoreLaws.{tree_says, tree_number_lem}
use Rattle.pieces.specs.Pieces.{layer_of_pieces, layer_answer}
use Rattle.words.specs.Held.{Holds, NoneDiffers}
use Rattle.words.specs.Pieces.{Over, at_leaf, above, LayerFormed, LayerSettles}
use Rattle.knowledge.specs.Again.{what_is_held}
use Rattle.knowledge.specs.ReadBack.{holds_at}
use Rattle.knowledge.specs.JudgedWhen.{layer_0}
use Rattle.knowledge.specs.HeldAfter.{layer_settles_once}
use Rattle.promises.specs.TwoBlocks.{high, store, facts, file, piece, held, hash}

module _ (a b : List ℕ) (oa : Octets 32 a) (ob : Octets 32 b) (buffer : List ℕ) (fits : store_size 32768 ≤ length buffer) where
  root_size : length (pair_hash a b) ≡ 32
  root_size = (pair_octets a b).size

  layer_is : layer_of_pieces (opened buffer 32768 16384 (pair_hash a b)) ≡ 0
  unfolding layer_of_pieces piece_layer height height_from
  layer_is = ap (λ (n : ℕ). height (n / 16384)) (piece buffer (pair_hash a b) fits root_size)

  both : length (a ++ b) ≡ 64
  both = omega (arith, length-append a b, oa.size, ob.size)

  formed : LayerFormed (opened buffer 32768 16384 (pair_hash a b)) (a ++ b)
  unfolding piece_count ceil_div
  formed =
      record {
        store = store buffer (pair_hash a b) fits root_size;
        longer = omega (arith, (file buffer (pair_hash a b) fits root_size), (piece buffer (pair_hash a b) fits root_size));
        size = rw ((file buffer (pair_hash a b) fits root_size), (piece buffer (pair_hash a b) fits root_size)) both;
      }

  first : layer_leaf (a ++ b) 0 0 ≡ a
  unfolding layer_leaf cut
  first = rw both (take_at a b 32 oa.size)

  second : layer_leaf (a ++ b) 0 1 ≡ b
  unfolding layer_leaf cut
  second = rw both (ap (take 32) (drop_at a b 32 oa.size) ∙ take_all 32 b (omega (arith, ob.size)))

  leaf_0 : Over (layer_leaf (a ++ b) 0) 0 0 1 0 0 a
  leaf_0 = subst (Over (layer_leaf (a ++ b) 0) 0 0 1 0 0) first (at_leaf 0 (lit< tt))

  leaf_1 : Over (layer_leaf (a ++ b) 0) 0 0 1 0 1 b
  leaf_1 = subst (Over (layer_leaf (a ++ b) 0) 0 0 1 0 1) second (at_leaf 1 (lit< tt))

  top : Over (layer_leaf (a ++ b) 0) 0 0 1 1 0 (pair_hash a b)
  top = above 0 0 a b leaf_0 leaf_1

  -- it settles the root with the root's (hash buffer (pair_hash a b) fits root-size)
  gives : LayerSettles (opened buffer 32768 16384 (pair_hash a b)) (a ++ b) (height_of (opened buffer 32768 16384 (pair_hash a b))) 0 (pair_hash a b)
  gives = rw ((high buffer (pair_hash a b) fits root_size), layer_is) top

  root_held : Holds (opened buffer 32768 16384 (pair_hash a b)) (height_of (opened buffer 32768 16384 (pair_hash a b))) 0 (pair_hash a b)
  root_held =
      let n = node_number_root (height_of (opened buffer 32768 16384 (pair_hash a b))) in
      let z : height_of (opened buffer 32768 16384 (pair_hash a b)) - height_of (opened buffer 32768 16384 (pair_hash a b)) ≡ 0 = omega arith in
      subst (Holds (opened buffer 32768 16384 (pair_hash a b)) (height_of (opened buffer 32768 16384 (pair_hash a b))) 0) (ap (hash_at (opened buffer 32768 16384 (pair_hash a b))) n ∙ (hash buffer (pair_hash a b) fits root_size))
      (holds_at (opened buffer 32768 16384 (pair_hash a b)) (height_of (opened buffer 32768 16384 (pair_hash a b))) 0 (facts buffer (pair_hash a b) fits root_size) (omega arith) (rw z (lit< tt)) (ap (held_at (opened buffer 32768 16384 (pair_hash a b))) n ∙ (held buffer (pair_hash a b) fits root_size) 1 (lit≤ tt) (lit< tt)))

  -- the root alone is (held buffer (pair_hash a b) fits root-size)
  none : NoneDiffers (opened buffer 32768 16384 (pair_hash a b)) (LayerSettles (opened buffer 32768 16384 (pair_hash a b)) (a ++ b))
  unfolding positions
  none l i v w x h =
      let k = what_is_held (opened buffer 32768 16384 (pair_hash a b)) l i w (facts buffer (pair_hash a b) fits root_size) h in
      let t = tree_says (height_of (opened buffer 32768 16384 (pair_hash a b))) l i k.0 in
      let n = tree_number_lem (height_of (opened buffer 32768 16384 (pair_hash a b))) l i k.0 in
      let r : positions (height_of (opened buffer 32768 16384 (pair_hash a b))) ≡ 4 = rw (high buffer (pair_hash a b) fits root_size) in
      let q : node_number (height_of (opened buffer 32768 16384 (pair_hash a b))) l i ≡ 1 = eqb-true (node_number (height_of (opened buffer 32768 16384 (pair_hash a b))) l i) 1 (sym ((held buffer (pair_hash a b) fits root_size) (node_number (height_of (opened buffer 32768 16384 (pair_hash a b))) l i) n.0 (omega arith)) ∙ k.1) in
      let z : height_of (opened buffer 32768 16384 (pair_hash a b)) - height_of (opened buffer 32768 16384 (pair_hash a b)) ≡ 0 = omega arith in
      let d = node_number_distinct (height_of (opened buffer 32768 16384 (pair_hash a b))) l i (height_of (opened buffer 32768 16384 (pair_hash a b))) 0 t.0 (omega arith) t.1 (rw z (lit< tt)) (q ∙ sym (node_number_root (height_of (opened buffer 32768 16384 (pair_hash a b))))) in
      let y : LayerSettles (opened buffer 32768 16384 (pair_hash a b)) (a ++ b) l i (pair_hash a b) = rw (d.0, d.1) gives in
      sym k.2 ∙ ap (hash_at (opened buffer 32768 16384 (pair_hash a b))) q ∙ (hash buffer (pair_hash a b) fits root_size) ∙ layer_settles_once (opened buffer 32768 16384 (pair_hash a b)) (a ++ b) formed l i (pair_hash a b) v y x

  -- it is loaded
  pub loaded_with_two : (layer_answer (opened buffer 32768 16384 (pair_hash a b)) (a ++ b)).number ≡ 0
  unfolding layer_answer
  loaded_with_two = (layer_0 (opened buffer 32768 16384 (pair_hash a b)) (a ++ b)).1 (formed, record { w = pair_hash a b; held = root_held; gives = gives; agree = none })
