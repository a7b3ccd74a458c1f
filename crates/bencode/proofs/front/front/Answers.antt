use Rattle.std.proofs.Common.{arith}
use Rattle.bencode.specs.FrontLaws.{front_here, front_end, alike_one}
use Rattle.bencode.proofs.front.front.Goals as goal

pub words_alike-first-requires : goal.words_alike-first-requires
words_alike-first-requires c = (omega (arith, c.min-n.ensures), omega (arith, c.min-n.ensures))

pub loop-i-init : goal.loop-i-init
loop-i-init c = c.words_alike-first.ensures.1

pub returns-then-one-i : goal.returns-then-one-i
returns-then-one-i c = front_here c.args.one.now
    c.args.other.now _ _
    (omega (arith, c.min-n.ensures))
    (omega (arith, c.min-n.ensures)) c.loop-i.invariant
    c.loop-i-test.true c.if-one-i.true

pub loop-i-preserved : goal.loop-i-preserved
loop-i-preserved c = alike_one c.args.one.now
    c.args.other.now _
    c.loop-i.invariant c.if-one-i.false

pub returns : goal.returns
returns c = front_end c.args.one.now
    c.args.other.now _ _
    (omega (arith, c.min-n.ensures))
    (omega (arith, c.min-n.ensures))
    (λ in_one in_other. omega (arith, c.min-n.ensures)) c.loop-i.invariant c.loop-i-test.false
