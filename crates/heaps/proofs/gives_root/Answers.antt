use Rattle.std.proofs.Common.{ℕ, ◌^◌, ◌<◌, arith, sym, ◌∙◌, ap}
use Rattle.heaps.proofs.Steps.{layer_under, leaves_few, root_worked}
use Rattle.std.proofs.lemmas.List.{length-replicate}
use Rattle.tree.specs.Values.{layer_leaf, pad_value}
use Rattle.heaps.specs.HeapsLaws.{over_layer}
use Rattle.heaps.proofs.gives_root.Goals as goal

pub overflow_sub-k : goal.overflow_sub-k
overflow_sub-k c = layer_under _ _ c.requires.0 c.requires.1 _ _ _ c.piece_layer-p.ensures c.block_count-b.ensures c.height-h.ensures

pub slice_bounds-run_node-end : goal.slice_bounds-run_node-end
slice_bounds-run_node-end c = sym (length-replicate {A = ℕ} 4096 0)

pub run_node-worked-requires : goal.run_node-worked-requires
run_node-worked-requires c = let n : c.args.size < 2 ^ 64 = omega arith in
    (length-replicate {A = ℕ} 4096 0, leaves_few c.args.size c.piece_layer-p.result _ c.height-h.result n c.block_count-b.ensures c.height-h.ensures)

pub returns : goal.returns
returns c = let a = c.args in
    let p = c.requires in
    let q = c.piece_layer-p in
    let w = c.run_node-worked.ensures (layer_leaf a.layer.now q.result) (over_layer a.layer.now a.pad q.result (p.3 ∙ ap pad_value (sym q.ensures))) in
    root_worked _ _ _ _ _ _ _ _ _ _ q.ensures c.block_count-b.ensures c.height-h.ensures w p.2 c.hash_at-mine.ensures c.same.ensures
