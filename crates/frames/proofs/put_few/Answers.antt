use Rattle.std.proofs.Common.{arith, length, refl}
use Rattle.octets.proofs.Turn.{turn, whole}
use Rattle.frames.proofs.put_few.Goals as goal

pub loop-i-preserved : goal.loop-i-preserved
loop-i-preserved c = turn _ _ _ _ _ c.loop-i.invariant (omega arith) (omega arith)

pub returns : goal.returns
returns c = whole _ _ _ _ c.loop-i.i (length c.args.bytes.now) c.loop-i.invariant refl (omega arith)
