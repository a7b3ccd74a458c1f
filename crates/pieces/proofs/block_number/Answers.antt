-- Each return is one case of the definition; a block of the file has its leaf in the tree.
use Rattle.std.proofs.Common.{arith}
use Rattle.pieces.proofs.Ways.{block_inside, block_cell, block_rest, block_4, block_3, block_9}
use Rattle.store.specs.StoreLaws.{usable_long}
use Rattle.pieces.proofs.block_number.Goals as goal

pub blocks_of-requires : goal.blocks_of-requires
blocks_of-requires c = usable_long _ _ c.is_usable.ensures c.if-not-is_usable.false

pub file_length-n-requires : goal.file_length-n-requires
file_length-n-requires c = usable_long _ _ c.is_usable.ensures c.if-not-is_usable.false

pub height_of-h-requires : goal.height_of-h-requires
height_of-h-requires c = usable_long _ _ c.is_usable.ensures c.if-not-is_usable.false

pub node_number-q-requires : goal.node_number-q-requires
node_number-q-requires c = let w = block_inside _ _ c.args.bytes.now _ c.is_usable.ensures c.if-not-is_usable.false _ c.blocks_of.ensures c.if-block-blocks_of.false _ c.height_of-h.ensures in (omega arith, w.0, w.1)

pub judge_leaf-requires : goal.judge_leaf-requires
judge_leaf-requires c = block_cell _ _ c.args.bytes.now _ c.is_usable.ensures c.if-not-is_usable.false _ c.blocks_of.ensures c.if-block-blocks_of.false _ _ c.height_of-h.ensures c.node_number-q.ensures

pub returns-then-not-is_usable : goal.returns-then-not-is_usable
returns-then-not-is_usable c = block_9 _ _ _ _ c.is_usable.ensures c.if-not-is_usable.true

pub returns-then-block-blocks_of : goal.returns-then-block-blocks_of
returns-then-block-blocks_of c = block_3 _ _ _ _ c.is_usable.ensures c.if-not-is_usable.false _ c.blocks_of.ensures c.if-block-blocks_of.true

pub returns-then-bytes-size : goal.returns-then-bytes-size
returns-then-bytes-size c = block_4 _ _ _ _ c.is_usable.ensures c.if-not-is_usable.false _ c.blocks_of.ensures c.if-block-blocks_of.false _ _ c.file_length-n.ensures c.block_size-size.ensures c.if-bytes-size.true

pub returns : goal.returns
returns c = block_rest _ _ _ _ c.is_usable.ensures c.if-not-is_usable.false _ c.blocks_of.ensures c.if-block-blocks_of.false _ _ c.file_length-n.ensures c.block_size-size.ensures c.if-bytes-size.false _ _ _ c.height_of-h.ensures c.node_number-q.ensures c.judge_leaf.ensures
