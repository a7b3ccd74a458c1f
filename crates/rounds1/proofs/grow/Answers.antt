use Rattle.std.proofs.Common.{arith, ◌+◌, ◌-◌, ◌≡◌}
use Rattle.rounds1.specs.Block.{next}
use Rattle.rounds1.proofs.grow.Goals as goal

pub returns : goal.returns
unfolding next
returns c = let w = c.args.w.now in
    let i = c.args.i in
    let e3 : i + 16 - 3 ≡ i + 13 = omega arith in
    let e8 : i + 16 - 8 ≡ i + 8 = omega arith in
    let e14 : i + 16 - 14 ≡ i + 2 = omega arith in
    let e16 : i + 16 - 16 ≡ i = omega arith in
    cc
