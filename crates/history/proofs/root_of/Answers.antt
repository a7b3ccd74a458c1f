use Rattle.std.proofs.Common.{arith, ap, ◌∙◌}
use Rattle.history.proofs.LastLaws.{tall_enough}
use Rattle.tree.specs.Geometry.{height}
use Rattle.octets.specs.Octets.{zero_hash}
use Rattle.history.proofs.Steps.{root_some}
use Rattle.history.proofs.HistoriesLaws.{root_zero}
use Rattle.history.proofs.root_of.Goals as goal

pub returns-then-n-eq0 : goal.returns-then-n-eq0
unfolding zero_hash
returns-then-n-eq0 c = root_zero c.args.history c.if-n-eq0.true

pub last_node-requires : goal.last_node-requires
last_node-requires c = (c.requires.0, omega (arith, c.height.ensures ∙ ap height c.block_count.ensures, tall_enough c.args.history.length c.requires.1))

pub returns : goal.returns
returns c = root_some c.args.history c.last_node.result c.block_count.result c.height.result c.if-n-eq0.false c.block_count.ensures c.height.ensures c.last_node.ensures
