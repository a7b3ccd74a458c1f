-- By the tests: 0, another number than p, or p, which is asked for where the file has a piece layer.
use Rattle.asking.proofs.Answers.{layer_zero, layer_other, layer_pieces, usable_long}
use Rattle.asking.proofs.next.layer_asked.Goals as goal

pub returns-then-layer-eq0 : goal.returns-then-layer-eq0
returns-then-layer-eq0 c = layer_zero _ _ c.if-layer-eq0.true

pub piece_length_of-plen-requires : goal.piece_length_of-plen-requires
piece_length_of-plen-requires c = usable_long _ c.requires

pub returns-then-layer-p : goal.returns-then-layer-p
returns-then-layer-p c = layer_other _ _ _ _ c.if-layer-eq0.false c.piece_length_of-plen.ensures c.piece_layer-p.ensures c.if-layer-p.true

pub file_length-size-requires : goal.file_length-size-requires
file_length-size-requires c = usable_long _ c.requires

pub returns : goal.returns
returns c = layer_pieces _ _ _ _ _ _ c.if-layer-eq0.false c.piece_length_of-plen.ensures c.piece_layer-p.ensures c.if-layer-p.false
    c.file_length-size.ensures c.has_layer.ensures
