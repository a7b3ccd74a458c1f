-- With layer p's padding value past them the hashes are the layer, and its subtree is the tree from layer p up to position 1.
use Rattle.pieces.proofs.Ways.{layer_low, layer_fit, layer_judged}
use Rattle.pieces.proofs.judge_layer.Goals as goal

pub overflow_sub-k : goal.overflow_sub-k
overflow_sub-k c = layer_low _ c.requires _ _ _ c.height_of-h.ensures c.piece_length_of-plen.ensures c.piece_layer-p.ensures

pub judge_run-requires : goal.judge_run-requires
judge_run-requires c = layer_fit _ c.requires _ _ _ c.height_of-h.ensures c.piece_length_of-plen.ensures c.piece_layer-p.ensures

pub returns : goal.returns
returns c = layer_judged _ c.requires _ _ _ c.height_of-h.ensures c.piece_length_of-plen.ensures c.piece_layer-p.ensures _ _ c.pad_value-pad.ensures _ c.judge_run.ensures
