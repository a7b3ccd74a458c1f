use Rattle.std.proofs.Common.{sym, ◌∙◌}
use Rattle.settling.specs.AncestorLaws.{ancestor_zero, ancestor_up}
use Rattle.settling.proofs.+ancestor.Goals as goal

pub returns-then-layers-eq0 : goal.returns-then-layers-eq0
returns-then-layers-eq0 t c = sym (ancestor_zero _ _ c.if-layers-eq0.true)

pub returns : goal.returns
returns t c = c.ancestor.ensures ∙ sym (ancestor_up _ _ c.if-layers-eq0.false)
