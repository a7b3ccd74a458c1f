use Rattle.std.proofs.Common.{rules}
use Rattle.tree.specs.Geometry.{block_count}
use Rattle.tree.proofs.geometry.block_count.Goals as goal

pub returns : goal.returns
unfolding block_count
returns c = search rules
