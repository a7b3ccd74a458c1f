use Rattle.std.proofs.Common.{arith}
use Rattle.octets.proofs.Turn.{turn, whole}
use Rattle.std.proofs.Math.Seq.{paste-zero}
use Rattle.octets.proofs.put_hash.Goals as goal

pub loop-i-init : goal.loop-i-init
loop-i-init g c = paste-zero c.args.bytes.now c.args.at c.args.hash

pub loop-i-preserved : goal.loop-i-preserved
loop-i-preserved g c = turn _ _ _ _ _ c.loop-i.invariant (omega arith) (omega (arith, c.well_formed.1.1.0.1.0.1))

pub returns : goal.returns
returns g c = whole _ _ _ _ c.loop-i.i g.row.N c.loop-i.invariant c.well_formed.1.1.0.1.0.1 (omega arith)
