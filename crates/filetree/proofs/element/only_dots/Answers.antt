use Rattle.std.proofs.Common.{sym}
use Rattle.filetree.proofs.Reading.{dots_one, dots_other, dots_first, dots_two}
use Rattle.filetree.proofs.element.only_dots.Goals as goal

pub returns-then-size-eq1 : goal.returns-then-size-eq1
returns-then-size-eq1 c = dots_one _ _ _ c.requires c.if-size-eq1.true

pub returns-then-size-ne2 : goal.returns-then-size-ne2
returns-then-size-ne2 c = sym (dots_other _ _ _ c.requires c.if-size-eq1.false c.if-size-ne2.true)

pub returns-then-first-ne46 : goal.returns-then-first-ne46
returns-then-first-ne46 c = sym (dots_first _ _ _ c.requires c.if-size-ne2.false c.if-first-ne46.true)

pub returns : goal.returns
returns c = dots_two _ _ _ c.requires c.if-size-ne2.false c.if-first-ne46.false
