use Rattle.tree.specs.Geometry.{block_size, piece_size}
use Rattle.tree.proofs.geometry.block_size.Goals as goal

pub returns : goal.returns
unfolding block_size piece_size
returns c = c.piece_size.ensures
