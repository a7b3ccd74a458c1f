-- Each return is one case of the definition; a file longer than a piece has its root above layer p.
use Rattle.std.proofs.Common.{arith}
use Rattle.pieces.proofs.Ways.{layer_few, layer_there, layer_rest, layer_4, layer_3, layer_9}
use Rattle.store.specs.StoreLaws.{usable_long}
use Rattle.pieces.proofs.layer_number.Goals as goal

pub file_length-n-requires : goal.file_length-n-requires
file_length-n-requires c = usable_long _ _ c.is_usable.ensures c.if-not-is_usable.false

pub piece_length_of-plen-requires : goal.piece_length_of-plen-requires
piece_length_of-plen-requires c = usable_long _ _ c.is_usable.ensures c.if-not-is_usable.false

pub overflow_mul-c : goal.overflow_mul-c
overflow_mul-c c = omega (arith, layer_few _ c.args.layer.now _ c.is_usable.ensures c.if-not-is_usable.false _ _ _ c.file_length-n.ensures c.piece_length_of-plen.ensures c.has_layer.ensures c.if-not-has_layer.false _ c.piece_count-c.ensures)

pub judge_layer-requires : goal.judge_layer-requires
judge_layer-requires c = layer_there _ c.args.layer.now _ c.is_usable.ensures c.if-not-is_usable.false _ _ _ c.file_length-n.ensures c.piece_length_of-plen.ensures c.has_layer.ensures c.if-not-has_layer.false

pub returns-then-not-is_usable : goal.returns-then-not-is_usable
returns-then-not-is_usable c = layer_9 _ _ _ c.is_usable.ensures c.if-not-is_usable.true

pub returns-then-not-has_layer : goal.returns-then-not-has_layer
returns-then-not-has_layer c = layer_3 _ _ _ c.is_usable.ensures c.if-not-is_usable.false _ _ _ c.file_length-n.ensures c.piece_length_of-plen.ensures c.has_layer.ensures c.if-not-has_layer.true

pub returns-then-layer-c : goal.returns-then-layer-c
returns-then-layer-c c = layer_4 _ _ _ c.is_usable.ensures c.if-not-is_usable.false _ _ _ c.file_length-n.ensures c.piece_length_of-plen.ensures c.has_layer.ensures c.if-not-has_layer.false _ c.piece_count-c.ensures c.if-layer-c.true

pub returns : goal.returns
returns c = layer_rest _ _ _ c.is_usable.ensures c.if-not-is_usable.false _ _ _ c.file_length-n.ensures c.piece_length_of-plen.ensures c.has_layer.ensures c.if-not-has_layer.false _ c.piece_count-c.ensures c.if-layer-c.false _ c.judge_layer.ensures
