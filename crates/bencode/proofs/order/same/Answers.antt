use Rattle.std.proofs.Common.{arith}
use Rattle.bencode.specs.FrontLaws.{other_length, front_same}
use Rattle.bencode.proofs.order.same.Goals as goal

pub returns-then-one-other : goal.returns-then-one-other
returns-then-one-other c = other_length c.args.one.now c.args.other.now (λ e. omega (arith, c.if-one-other.true, e))

pub returns : goal.returns
returns c = front_same c.args.one.now c.args.other.now _ c.front-n.ensures
    c.if-one-other.false
