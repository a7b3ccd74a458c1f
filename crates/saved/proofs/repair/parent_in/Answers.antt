use Rattle.std.proofs.Common.{arith}
use Rattle.saved.proofs.Answers.{place_range, parent_by}
use Rattle.saved.proofs.repair.parent_in.Goals as goal

pub node_number-requires : goal.node_number-requires
node_number-requires c = let w = place_range _ _ _ _ _ c.layer_in-l.ensures c.index_in-i.ensures c.requires.2 in (w.0, omega (arith, c.requires.0), w.1)

pub returns : goal.returns
returns c = parent_by _ _ _ _ _ _ c.layer_in-l.ensures c.index_in-i.ensures c.requires.2 c.node_number.ensures
