use Rattle.std.proofs.Common.{arith, ◌≡◌, ◌-◌, ◌%◌}
use Rattle.bits.specs.Words.{rotl}
use Rattle.bits.proofs.rotl.Goals as goal

pub returns : goal.returns
unfolding rotl
returns c = let n : c.args.n % 32 ≡ c.args.n = omega arith in
    let m : (32 - c.args.n) % 32 ≡ 32 - c.args.n = omega arith in
    rw (n, m) at c.rotate_left.ensures
