-- Demand 2, from the root to the block: the file's own piece layer is loaded, or a pair is shown.
-- Assumes nothing.
use Rattle.std.specs.Prelude.{◌≡◌, true, List, ◌⊎◌, ℕ, ◌+◌, ◌-◌, ◌*◌, ◌<◌, length}
use Rattle.std.proofs.Math.Path.{ap, sym}
use Rattle.std.proofs.Common.{◌∙◌, inl, inr, arith}
use Rattle.tree.specs.Geometry.{block_count, node_number, covering, has_layer, piece_count}
use Rattle.tree.specs.Values.{node, leaf_of, whole_layer, layer_leaf, pieces_root}
use Rattle.tree.proofs.ValuesLaws.{layer_octets, layer_cut, node_of_layer}
use Rattle.cells.specs.Cells.{hash_at}
use Rattle.cells.specs.Entries.{agrees}
use Rattle.cells.specs.EntriesLaws.{has_same, agrees_in, in_agrees}
use Rattle.store.specs.Store.{file_length, piece_length, blocks_of, height_of}
use Rattle.store.specs.StoreLaws.{facts_usable}
use Rattle.settling.specs.Subtree.{subtree}
use Rattle.pieces.specs.Pieces.{layer_of_pieces, layer_settled, layer_number}
use Rattle.pieces.proofs.PiecesLaws.{layered, pieces_are, loads_answered, settled_in_layers}
use Rattle.words.specs.History.{OurStore}
use Rattle.words.specs.Shown.{held_by, of_file}
use Rattle.words.specs.File.{For, layer_for}
use Rattle.knowledge.specs.Invariant.{Chained}
use Rattle.knowledge.specs.OwnBytes.{ours_have, ours_bytes}
use Rattle.knowledge.specs.Conflict.{ShownAt}
use Rattle.knowledge.specs.RootToBlock.{tree_of, same_height, tree_agrees, tree_has}

module _ (file s : List ℕ) (c : Chained s) (w : For file s) (longer : has_layer (file_length s) (piece_length s) ≡ true) where
  blocks : blocks_of s ≡ block_count (length file)
  unfolding blocks_of
  blocks = ap block_count w.long

  above : layer_of_pieces s < height_of s
  above = (layered s c.facts longer).above

  size_covers : length (layer_for file s) ≡ 32 * covering (block_count (length file)) (layer_of_pieces s)
  unfolding whole_layer
  size_covers = (layer_octets file (layer_of_pieces s) (covering (block_count (length file)) (layer_of_pieces s))).size

  size_is : length (layer_for file s) ≡ 32 * piece_count (file_length s) (piece_length s)
  size_is =
      size_covers ∙ ap (λ (b : ℕ). 32 * covering b (layer_of_pieces s)) (sym blocks) ∙ ap (λ (n : ℕ). 32 * n) (sym (pieces_are s c.facts))

  -- what it works out is the file's
  node_is : (k j : ℕ) → node (layer_leaf (layer_for file s) (layer_of_pieces s)) k j ≡ node (leaf_of file) (layer_of_pieces s + k) j
  unfolding whole_layer
  node_is k j = node_of_layer file (layer_for file s) (layer_of_pieces s) size_covers (layer_cut file (layer_of_pieces s) (covering (block_count (length file)) (layer_of_pieces s))) k j

  root_is : hash_at s 1 ≡ node (layer_leaf (layer_for file s) (layer_of_pieces s)) (height_of s - layer_of_pieces s) 0
  unfolding pieces_root
  root_is =
      let e : layer_of_pieces s + (height_of s - layer_of_pieces s) ≡ height_of s = omega (arith, above) in
      c.root.1 ∙ w.root ∙ ap (λ (h : ℕ). node (leaf_of file) h 0) (sym (e ∙ same_height file s w)) ∙ sym (node_is (height_of s - layer_of_pieces s) 0)

  all_agree : agrees s (tree_of file) ≡ true → agrees s (layer_settled s (layer_for file s)) ≡ true
  all_agree g =
      in_agrees s (layer_settled s (layer_for file s))
      (λ e x.
      let p = settled_in_layers s (layer_for file s) (layered s c.facts longer) e x in
      let q : layer_of_pieces s + (p.l - layer_of_pieces s) ≡ p.l = omega (arith, p.from) in
      let v : node (leaf_of file) p.l p.i ≡ e.hash = sym (p.value ∙ node_is (p.l - layer_of_pieces s) p.i ∙ ap (λ (h : ℕ). node (leaf_of file) h p.i) q) in
      let T = subtree (leaf_of file) (height_of s) 1 0 in
      let g2 : agrees s (subtree (leaf_of file) (height_of s) 1 0) ≡ true = rw (same_height file s w) g in
      agrees_in s T g2 e
      (has_same T (node_number (height_of s) p.l p.i) e.at (node (leaf_of file) p.l p.i) e.hash (sym p.position) v
      (tree_has file s w p.l p.i p.upto p.inside)))

-- THE FILE'S OWN PIECE LAYER is answered 0, or a pair is shown
pub true_layer : {s : List ℕ} (file : List ℕ) → OurStore s → For file s → has_layer (file_length s) (piece_length s) ≡ true
    → ShownAt (height_of s) (held_by s) (of_file file) ⊎ (layer_number s (layer_for file s) ≡ 0)
unfolding layer_settled
true_layer {s} file o w longer =
    let c = (ours_have o).chained in
    elim (tree_agrees file s w c (ours_bytes o)) [
      | inl x ↦ inl x
      | inr g ↦
          inr (loads_answered s (layer_for file s)
          (record {
            store = facts_usable s c.facts;
            longer = longer;
            size = size_is file s c w longer;
            root = record { held = c.root.0; alike = root_is file s c w longer; agree = all_agree file s c w longer g };
          }))
    ]
