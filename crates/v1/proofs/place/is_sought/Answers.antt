use Rattle.std.proofs.Common.{refl}
use Rattle.v1.proofs.place.is_sought.Goals as goal

pub returns : goal.returns
returns c = rw c.if-padding.false refl
