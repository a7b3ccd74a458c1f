-- For a length in range the height is small, so that nothing wraps, and the shifts give the number past the last position and the leaves.
use Rattle.std.proofs.Common.{arith}
use Rattle.store.proofs.Answers.{size_height, size_positions, size_small, size_leaves, size_leaves_small, size_worked}
use Rattle.store.proofs.size_in_range.Goals as goal

pub overflow_shl-p : goal.overflow_shl-p
overflow_shl-p c = omega (arith, size_height _ _ _ c.requires c.block_count-b.ensures c.height-h.ensures)

pub overflow_shl-leaves : goal.overflow_shl-leaves
overflow_shl-leaves c = omega (arith, size_height _ _ _ c.requires c.block_count-b.ensures c.height-h.ensures)

pub overflow_sub-result : goal.overflow_sub-result
overflow_sub-result c = omega (arith, size_positions _ _ _ c.requires c.block_count-b.ensures c.height-h.ensures, size_small _ _ _ c.requires c.block_count-b.ensures c.height-h.ensures)

pub overflow_mul-result : goal.overflow_mul-result
overflow_mul-result c = omega (arith, size_positions _ _ _ c.requires c.block_count-b.ensures c.height-h.ensures, size_small _ _ _ c.requires c.block_count-b.ensures c.height-h.ensures)

pub overflow_add-result : goal.overflow_add-result
overflow_add-result c = omega (arith, size_positions _ _ _ c.requires c.block_count-b.ensures c.height-h.ensures, size_small _ _ _ c.requires c.block_count-b.ensures c.height-h.ensures)

pub overflow_add-result-2 : goal.overflow_add-result-2
overflow_add-result-2 c = omega (arith, size_positions _ _ _ c.requires c.block_count-b.ensures c.height-h.ensures, size_small _ _ _ c.requires c.block_count-b.ensures c.height-h.ensures, size_leaves _ _ _ c.requires c.block_count-b.ensures c.height-h.ensures, size_leaves_small _ _ _ c.requires c.block_count-b.ensures c.height-h.ensures)

pub returns : goal.returns
returns c = size_worked _ _ _ c.requires c.block_count-b.ensures c.height-h.ensures _ _ (size_positions _ _ _ c.requires c.block_count-b.ensures c.height-h.ensures) (size_leaves _ _ _ c.requires c.block_count-b.ensures c.height-h.ensures)
