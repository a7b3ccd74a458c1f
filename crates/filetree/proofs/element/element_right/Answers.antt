use Rattle.std.proofs.Common.{sym, ◌∙◌}
use Rattle.filetree.proofs.Reading.{element_none, element_dotted, element_other}
use Rattle.filetree.proofs.element.element_right.Goals as goal

pub returns-then-size-eq0 : goal.returns-then-size-eq0
returns-then-size-eq0 c = sym (element_none _ _ _ c.requires c.if-size-eq0.true)

pub returns-then-only_dots : goal.returns-then-only_dots
returns-then-only_dots c = sym (element_dotted _ _ _ c.requires c.if-size-eq0.false (sym c.only_dots.ensures ∙ c.if-only_dots.true))

pub returns : goal.returns
returns c = c.bytes_right.ensures ∙ sym (element_other _ _ _ c.requires c.if-size-eq0.false (sym c.only_dots.ensures ∙ c.if-only_dots.false))
