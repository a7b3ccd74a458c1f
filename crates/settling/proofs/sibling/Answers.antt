-- The two cases of the definition, by the parity of n.
use Rattle.std.proofs.Common.{sym}
use Rattle.settling.specs.PathLaws.{sibling_even, sibling_odd}
use Rattle.settling.proofs.sibling.Goals as goal

pub returns-then-node-eq0 : goal.returns-then-node-eq0
returns-then-node-eq0 c = sym (sibling_even _ c.if-node-eq0.true)

pub returns-else-node-eq0 : goal.returns-else-node-eq0
returns-else-node-eq0 c = sym (sibling_odd _ c.if-node-eq0.false)
