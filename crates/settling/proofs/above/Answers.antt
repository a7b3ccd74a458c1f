-- The two cases of the definition, by the parity of n.
use Rattle.std.proofs.Common.{sym, ◌∙◌}
use Rattle.settling.specs.PathLaws.{parent_even, parent_odd}
use Rattle.settling.proofs.above.Goals as goal

pub returns-then-n-eq0 : goal.returns-then-n-eq0
returns-then-n-eq0 c = c.pair.ensures ∙ sym (parent_even _ _ _ c.if-n-eq0.true)

pub returns-else-n-eq0 : goal.returns-else-n-eq0
returns-else-n-eq0 c = c.pair-else-n-eq0.ensures ∙ sym (parent_odd _ _ _ c.if-n-eq0.false)
