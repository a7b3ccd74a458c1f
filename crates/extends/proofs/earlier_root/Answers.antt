-- The root is held, or neither held nor padding.
use Rattle.std.proofs.Common.{arith}
use Rattle.extends.proofs.Ways.{root_low, root_held, root_asks, root_edge}
use Rattle.extends.proofs.earlier_root.Goals as goal

pub overflow_shr-whole : goal.overflow_shr-whole
overflow_shr-whole c = omega (arith, root_low _ _ _ c.requires.1 c.block_count-b.ensures c.height-h.ensures)

pub returns-then-whole-gt0 : goal.returns-then-whole-gt0
returns-then-whole-gt0 c = root_held _ _ _ _ _ c.block_count-b.ensures c.height-h.ensures _ c.if-whole-gt0.true c.held_hash.ensures

pub edge-top-requires : goal.edge-top-requires
edge-top-requires c = root_asks c.args.store.now _ c.args.last _ _ c.block_count-b.ensures c.height-h.ensures c.requires.0 c.requires.1 c.if-whole-gt0.false

pub returns : goal.returns
returns c = root_edge _ _ _ _ _ c.block_count-b.ensures c.height-h.ensures _ c.edge-top.ensures.0
