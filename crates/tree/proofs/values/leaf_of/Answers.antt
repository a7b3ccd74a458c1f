-- A block that the file has starts within it; the part that is lent has just the block's bytes.
use Rattle.std.proofs.Common.{arith, length}
use Rattle.tree.proofs.Steps.{leaf_past, leaf_hashed}
use Rattle.tree.specs.Geometry.{block_size}
use Rattle.tree.proofs.GeometryLaws.{block_starts, block_size_most}
use Rattle.tree.proofs.values.leaf_of.Goals as goal

pub returns-then-block-b : goal.returns-then-block-b
returns-then-block-b c = leaf_past c.args.bytes.now _ c.args.block (omega arith) c.pad_value.ensures

pub overflow_mul-a : goal.overflow_mul-a
overflow_mul-a c = omega (arith, block_starts (length c.args.bytes.now) c.args.block (omega arith))

pub overflow_add-e : goal.overflow_add-e
overflow_add-e c = omega (arith, block_starts (length c.args.bytes.now) c.args.block (omega arith), block_size_most (length c.args.bytes.now) c.args.block)

pub slice_bounds-hash-end : goal.slice_bounds-hash-end
unfolding block_size
slice_bounds-hash-end c = omega (arith, block_starts (length c.args.bytes.now) c.args.block (omega arith))

pub returns : goal.returns
returns c = leaf_hashed c.args.bytes.now _ c.args.block c.block_size-s.result (omega arith) c.block_size-s.ensures c.hash.ensures
