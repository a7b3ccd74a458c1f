-- Both returns are the two cases of the definition.
use Rattle.pieces.proofs.Ways.{height_in_layer, height_at_root}
use Rattle.pieces.proofs.piece_height.Goals as goal

pub returns-then-has_layer : goal.returns-then-has_layer
returns-then-has_layer c = height_in_layer _ _ _ _ c.file_length-n.ensures c.piece_length_of-plen.ensures c.has_layer.ensures c.if-has_layer.true _ c.piece_layer.ensures

pub returns : goal.returns
returns c = height_at_root _ _ _ _ c.file_length-n.ensures c.piece_length_of-plen.ensures c.has_layer.ensures c.if-has_layer.false _ c.height_of.ensures
