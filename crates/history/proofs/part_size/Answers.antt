-- Bytes within a block, or eight blocks where none is begun and so many are left.
-- Assumes nothing.
use Rattle.history.proofs.Eights.{part_within, part_eight}
use Rattle.history.proofs.part_size.Goals as goal

pub returns-then-left-lt-EIGHT_BLOCKS : goal.returns-then-left-lt-EIGHT_BLOCKS
returns-then-left-lt-EIGHT_BLOCKS c = part_within _ _ _ c.within_block-size.ensures

pub returns-then-n-ne0 : goal.returns-then-n-ne0
returns-then-n-ne0 c = part_within _ _ _ c.within_block-size.ensures

pub returns-then-is_begun : goal.returns-then-is_begun
returns-then-is_begun c = part_eight _ _ c.if-left-lt-EIGHT_BLOCKS.false c.if-n-ne0.false (c.is_begun.ensures c.if-is_begun.true)

pub returns : goal.returns
returns c = part_within _ _ _ c.within_block-size.ensures
