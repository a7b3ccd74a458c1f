-- The leaf is finished, and no block is under way.
-- Assumes nothing.
use Rattle.std.proofs.Common.{refl}
use Rattle.history.specs.Parts.{with_leaf}
use Rattle.history.proofs.grow_block.Goals as goal

pub returns : goal.returns
unfolding with_leaf
returns c = rw (c.begin.ensures, c.finish.ensures) refl
