use Rattle.std.proofs.Common.{arith}
use Rattle.rounds1.specs.StageLaws.{rounds_at}
use Rattle.rounds1.proofs.twenty.Goals as goal

pub loop-i-init : goal.loop-i-init
loop-i-init g c = λ z e. rounds_at _ z _ _ e (omega arith)

pub step5-t-requires-clause-by : goal.step5-t-requires-clause-by
step5-t-requires-clause-by g c = (omega arith, λ j l h. c.requires.by.1 j (omega arith) (omega arith))

pub loop-i-preserved : goal.loop-i-preserved
loop-i-preserved g c = λ z e. rounds_at _ z _ _ (c.step5-t.ensures z (c.loop-i.invariant z e)) (omega arith)

pub returns : goal.returns
returns g c = λ z e. rounds_at _ z _ _ (c.loop-i.invariant z e) (omega arith)
