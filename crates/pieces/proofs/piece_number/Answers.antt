-- Each return is one case of the definition; a piece of the file has its node in the tree.
use Rattle.pieces.proofs.Ways.{piece_there, piece_rest, piece_4, piece_3, piece_9}
use Rattle.store.specs.StoreLaws.{usable_long}
use Rattle.pieces.proofs.piece_number.Goals as goal

pub file_length-n-requires : goal.file_length-n-requires
file_length-n-requires c = usable_long _ _ c.is_usable.ensures c.if-not-is_usable.false

pub piece_length_of-plen-requires : goal.piece_length_of-plen-requires
piece_length_of-plen-requires c = usable_long _ _ c.is_usable.ensures c.if-not-is_usable.false

pub judge_node-requires : goal.judge_node-requires
judge_node-requires c = piece_there _ _ c.args.bytes.now _ c.is_usable.ensures c.if-not-is_usable.false _ _ _ c.file_length-n.ensures c.piece_length_of-plen.ensures c.piece_count-c.ensures c.if-piece-c.false

pub returns-then-not-is_usable : goal.returns-then-not-is_usable
returns-then-not-is_usable c = piece_9 _ _ _ _ c.is_usable.ensures c.if-not-is_usable.true

pub returns-then-piece-c : goal.returns-then-piece-c
returns-then-piece-c c = piece_3 _ _ _ _ c.is_usable.ensures c.if-not-is_usable.false _ _ _ c.file_length-n.ensures c.piece_length_of-plen.ensures c.piece_count-c.ensures c.if-piece-c.true

pub returns-then-bytes-size : goal.returns-then-bytes-size
returns-then-bytes-size c = piece_4 _ _ _ _ c.is_usable.ensures c.if-not-is_usable.false _ _ _ c.file_length-n.ensures c.piece_length_of-plen.ensures c.piece_count-c.ensures c.if-piece-c.false _ c.piece_size-size.ensures c.if-bytes-size.true

pub returns : goal.returns
returns c = piece_rest _ _ _ _ c.is_usable.ensures c.if-not-is_usable.false _ _ _ c.file_length-n.ensures c.piece_length_of-plen.ensures c.piece_count-c.ensures c.if-piece-c.false _ c.piece_size-size.ensures c.if-bytes-size.false _ c.judge_node.ensures
