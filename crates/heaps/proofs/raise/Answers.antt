-- The loop's invariant: h is raised by i layers.
-- Assumes nothing.
use Rattle.std.proofs.Common.{arith, ◌≡◌, refl}
use Rattle.heaps.specs.Heaps.{raised}
use Rattle.heaps.proofs.Steps.{raised_more}
use Rattle.heaps.proofs.raise.Goals as goal

pub loop-i-init : goal.loop-i-init
unfolding raised
loop-i-init c = (refl)

pub loop-i-preserved : goal.loop-i-preserved
loop-i-preserved c = (raised_more _ _ _ c.loop-i.i c.loop-i.invariant c.pair-above.ensures)

pub returns : goal.returns
returns c = let e : c.loop-i.i ≡ c.args.k = omega arith in rw e at c.loop-i.invariant
