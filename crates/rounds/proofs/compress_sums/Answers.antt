-- After i rounds the state is that of the first i rounds by the sums.
-- Assumes nothing.
use Rattle.std.proofs.Common.{arith, ◌+◌, ◌*◌, refl, ap, ◌∙◌}
use Rattle.rounds.specs.StageLaws.{rounds_by_at}
use Rattle.rounds.specs.Block.{plus}
use Rattle.rounds.specs.Sums.{rounds_by}
use Rattle.rounds.proofs.compress_sums.Goals as goal

pub loop-i-init : goal.loop-i-init
unfolding rounds_by
loop-i-init c = refl

pub loop-i-preserved : goal.loop-i-preserved
loop-i-preserved c = rounds_by_at c.args.sums.now c.args.state (16 * c.loop-i.i + 16) (16 * (c.loop-i.i + 1)) (c.step16-t.ensures c.args.state c.loop-i.invariant) (omega arith)

pub returns : goal.returns
returns c = c.sum.ensures ∙ ap (plus c.args.state) (rounds_by_at c.args.sums.now c.args.state (16 * c.loop-i.i) 64 c.loop-i.invariant (omega arith))
