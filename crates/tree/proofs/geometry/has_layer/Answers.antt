use Rattle.std.proofs.Common.{rules}
use Rattle.tree.specs.Geometry.{has_layer}
use Rattle.tree.proofs.geometry.has_layer.Goals as goal

pub returns : goal.returns
unfolding has_layer
returns c = search rules
