-- The loop's invariant: the first i words are the sums.
-- Assumes nothing.
use Rattle.std.proofs.Common.{arith, length-set, refl, ◌∙◌}
use Rattle.lanes.specs.LanesLaws.{sum_more, state_sum}
use Rattle.lanes.proofs.block.sum_all.Goals as goal

pub loop-i-init : goal.loop-i-init
loop-i-init c = (refl, λ x h. absurd (omega arith))

pub loop-i-preserved : goal.loop-i-preserved
loop-i-preserved c = (
  length-set c.loop-i.r c.loop-i.i c.add.result ∙ c.loop-i.invariant.0,
  sum_more c.args.st c.args.t c.loop-i.r c.loop-i.i c.add.result (omega arith) c.loop-i.invariant.1 c.add.ensures,
)

pub returns : goal.returns
returns c = (c.loop-i.invariant.0, λ j h. state_sum c.args.st c.args.t c.loop-i.r (λ x l. c.loop-i.invariant.1 x (omega arith)) j h)
