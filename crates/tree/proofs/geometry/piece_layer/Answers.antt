use Rattle.tree.specs.Geometry.{piece_layer}
use Rattle.tree.proofs.geometry.piece_layer.Goals as goal

pub returns : goal.returns
unfolding piece_layer
returns c = c.height.ensures
