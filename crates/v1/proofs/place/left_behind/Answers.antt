use Rattle.std.proofs.Common.{refl}
use Rattle.v1.proofs.place.left_behind.Goals as goal

pub returns-then-left-eq0 : goal.returns-then-left-eq0
returns-then-left-eq0 c = rw (c.if-padding.false, c.if-left-eq0.true) refl

pub returns : goal.returns
returns c = rw c.if-padding.false refl
