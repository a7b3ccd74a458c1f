-- The subtree that write_run fills is the one that the layer settles.
use Rattle.pieces.proofs.Ways.{layer_low, layer_fit, layer_wrote}
use Rattle.pieces.proofs.write_layer.Goals as goal

pub overflow_sub-k : goal.overflow_sub-k
overflow_sub-k c = layer_low _ c.requires _ _ _ c.height_of-h.ensures c.piece_length_of-plen.ensures c.piece_layer-p.ensures

pub write_run-filled-requires : goal.write_run-filled-requires
write_run-filled-requires c = layer_fit _ c.requires _ _ _ c.height_of-h.ensures c.piece_length_of-plen.ensures c.piece_layer-p.ensures

pub returns : goal.returns
returns c = layer_wrote _ c.requires _ _ _ c.height_of-h.ensures c.piece_length_of-plen.ensures c.piece_layer-p.ensures _ _ c.pad_value.ensures _ _ c.write_run-filled.ensures.1
