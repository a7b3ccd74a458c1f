use Rattle.std.proofs.Common.{refl}
use Rattle.hybrid.proofs.counted.Goals as goal

pub returns-then-padding : goal.returns-then-padding
returns-then-padding c = rw c.if-padding.true refl

pub returns : goal.returns
returns c = rw c.if-padding.false refl
