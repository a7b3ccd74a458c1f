use Rattle.std.proofs.Common.{refl}
use Rattle.writer_order.proofs.clash.is_full.Goals as goal

pub returns : goal.returns
returns c = rw c.number_at-n.ensures.0 refl
