use Rattle.std.proofs.Common.{arith}
use Rattle.bencode.specs.FrontLaws.{front_second, front_first, front_both}
use Rattle.bencode.proofs.order.comes_before.Goals as goal

pub returns-then-other-n : goal.returns-then-other-n
returns-then-other-n c = front_second c.args.one.now c.args.other.now _
    c.front-n.ensures (omega (arith, c.if-other-n.true))

pub returns-then-one-n : goal.returns-then-one-n
returns-then-one-n c = front_first c.args.one.now c.args.other.now _
    c.front-n.ensures (omega (arith, c.if-other-n.false)) c.if-one-n.true

pub returns : goal.returns
returns c = front_both c.args.one.now
    c.args.other.now _ c.front-n.ensures
    (omega (arith, c.if-other-n.false)) c.if-one-n.false
