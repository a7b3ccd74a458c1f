-- The height is that of the blocks that `blocks_of` counted.
use Rattle.std.proofs.Common.{ap, ◌∙◌}
use Rattle.tree.specs.Geometry.{height}
use Rattle.store.specs.Store.{height_of}
use Rattle.store.proofs.height_of.Goals as goal

pub returns : goal.returns
unfolding height_of
returns c = c.height.ensures ∙ ap height c.blocks_of.ensures
