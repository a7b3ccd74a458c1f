use Rattle.std.proofs.Common.{arith, ◌+◌, refl}
use Rattle.rounds.specs.StageLaws.{stage_step}
use Rattle.rounds.proofs.grow4.Goals as goal

pub returns : goal.returns
returns c = λ m h.
    let i = c.args.i in
    let h1 = stage_step (i + 1) h c.grow.ensures (omega arith) refl in
    let h2 = stage_step (i + 2) h1 c.grow-2.ensures (omega arith) (omega arith) in
    let h3 = stage_step (i + 3) h2 c.grow-3.ensures (omega arith) (omega arith) in
    stage_step (i + 4) h3 c.grow-4.ensures (omega arith) (omega arith)
