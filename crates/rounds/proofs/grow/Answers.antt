use Rattle.std.proofs.Common.{arith, ◌+◌, ◌-◌, get_or, ◌≡◌}
use Rattle.bits.specs.Words.{σ₀, σ₁}
use Rattle.rounds.proofs.Laws.{sum4}
use Rattle.rounds.specs.Block.{next}
use Rattle.rounds.proofs.grow.Goals as goal

pub returns : goal.returns
unfolding next
returns c = let w = c.args.w.now in
    let i = c.args.i in
    let e2 : i + 16 - 2 ≡ i + 14 = omega arith in
    let e7 : i + 16 - 7 ≡ i + 9 = omega arith in
    let e15 : i + 16 - 15 ≡ i + 1 = omega arith in
    let e16 : i + 16 - 16 ≡ i = omega arith in
    cc (sum4 (σ₀ (get_or w (i + 1) 0)) (get_or w i 0) (get_or w (i + 9) 0) (σ₁ (get_or w (i + 14) 0)))
