use Rattle.std.proofs.Common.{eq-eqb, ne_eqb, refl}
use Rattle.filetree.proofs.element.forbidden.Goals as goal

pub returns-then-c-eq47 : goal.returns-then-c-eq47
returns-then-c-eq47 c = rw (eq-eqb _ _ c.if-c-eq47.true) refl

pub returns : goal.returns
returns c = rw (ne_eqb _ _ c.if-c-eq47.false) refl
