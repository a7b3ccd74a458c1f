use Rattle.std.proofs.Common.{arith, ◌+◌, ◌*◌, take, drop}
use Rattle.rounds1.specs.StageLaws.{stage_first, stage_last, stage_at}
use Rattle.rounds1.proofs.fill.Goals as goal

pub loop-i-init : goal.loop-i-init
loop-i-init c = stage_first (take 64 (drop c.args.at c.args.bytes.now)) c.load.new.w c.load.ensures.0 c.load.ensures.1

pub loop-i-preserved : goal.loop-i-preserved
loop-i-preserved c = stage_at (4 * (c.loop-i.i + 1)) (c.grow4.ensures (take 64 (drop c.args.at c.args.bytes.now)) c.loop-i.invariant) (omega arith)

pub returns : goal.returns
returns c = stage_last (take 64 (drop c.args.at c.args.bytes.now)) c.loop-i.w (stage_at 64 c.loop-i.invariant (omega arith))
