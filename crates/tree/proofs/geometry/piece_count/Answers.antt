use Rattle.std.proofs.Common.{rules}
use Rattle.tree.specs.Geometry.{piece_count}
use Rattle.tree.proofs.geometry.piece_count.Goals as goal

pub returns : goal.returns
unfolding piece_count
returns c = search rules
