-- The blocks are counted from the length that `file_length` read.
use Rattle.std.proofs.Common.{ap, ◌∙◌}
use Rattle.tree.specs.Geometry.{block_count}
use Rattle.store.specs.Store.{blocks_of}
use Rattle.store.proofs.blocks_of.Goals as goal

pub returns : goal.returns
unfolding blocks_of
returns c = c.block_count.ensures ∙ ap block_count c.file_length.ensures
