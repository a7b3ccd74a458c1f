use Rattle.std.proofs.Common.{arith}
use Rattle.saved.proofs.Saving.{node_below, held_by}
use Rattle.saved.proofs.save.held_in.Goals as goal

pub node_number-n-requires : goal.node_number-n-requires
node_number-n-requires c = (c.requires.1, omega (arith, c.requires.0), c.requires.2)

pub held-requires : goal.held-requires
held-requires c = omega (arith, node_below _ _ _ _ c.requires.2 c.node_number-n.ensures, c.requires.3)

pub returns : goal.returns
returns c = held_by _ _ _ _ _ _ c.node_number-n.ensures c.held.ensures
