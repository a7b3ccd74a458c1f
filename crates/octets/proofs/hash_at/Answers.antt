use Rattle.std.proofs.Common.{arith, ℕ}
use Rattle.std.proofs.lemmas.List.{length-replicate}
use Rattle.octets.proofs.Turn.{turn_read, whole_read}
use Rattle.octets.proofs.hash_at.Goals as goal

pub loop-i-preserved : goal.loop-i-preserved
loop-i-preserved g c = turn_read _ _ c.args.bytes.now c.args.at _ c.loop-i.invariant (omega (arith, length-replicate {A = ℕ} g.row.N 0)) (omega (arith, c.requires))

pub returns : goal.returns
returns g c = whole_read _ _ _ _ c.loop-i.i g.row.N c.loop-i.invariant (length-replicate {A = ℕ} g.row.N 0) (omega arith)
