use Rattle.std.proofs.Common.{arith, ◌+◌}
use Rattle.rounds1.specs.StageLaws.{rounds_at}
use Rattle.rounds1.proofs.step5.Goals as goal

pub step-s1-requires-clause-by : goal.step-s1-requires-clause-by
step-s1-requires-clause-by g c = (omega arith, c.requires.by.1 c.args.i (omega arith) (omega arith))

pub step-s2-requires-clause-by : goal.step-s2-requires-clause-by
step-s2-requires-clause-by g c = (omega arith, c.requires.by.1 (c.args.i + 1) (omega arith) (omega arith))

pub step-s3-requires-clause-by : goal.step-s3-requires-clause-by
step-s3-requires-clause-by g c = (omega arith, c.requires.by.1 (c.args.i + 2) (omega arith) (omega arith))

pub step-s4-requires-clause-by : goal.step-s4-requires-clause-by
step-s4-requires-clause-by g c = (omega arith, c.requires.by.1 (c.args.i + 3) (omega arith) (omega arith))

pub step-requires-clause-by : goal.step-requires-clause-by
step-requires-clause-by g c = (omega arith, c.requires.by.1 (c.args.i + 4) (omega arith) (omega arith))

pub returns : goal.returns
returns g c = λ z h.
    let x = c.args.w.now in
    let i = c.args.i in
    let h1 = c.step-s1.ensures z h in
    let h2 = rounds_at x z (i + 1 + 1) (i + 2) (c.step-s2.ensures z h1) (omega arith) in
    let h3 = rounds_at x z (i + 2 + 1) (i + 3) (c.step-s3.ensures z h2) (omega arith) in
    let h4 = rounds_at x z (i + 3 + 1) (i + 4) (c.step-s4.ensures z h3) (omega arith) in
    rounds_at x z (i + 4 + 1) (i + 5) (c.step.ensures z h4) (omega arith)
