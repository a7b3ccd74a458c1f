use Rattle.std.proofs.Common.{arith, ◌*◌}
use Rattle.bencode.specs.FrontLaws.{alike_none, alike_four}
use Rattle.bencode.proofs.front.words_alike.Goals as goal

pub loop-k-init : goal.loop-k-init
loop-k-init c = alike_none c.args.one.now c.args.other.now

pub returns-then-not-four_alike : goal.returns-then-not-four_alike
returns-then-not-four_alike c = (omega arith, c.loop-k.invariant)

pub loop-k-preserved : goal.loop-k-preserved
loop-k-preserved c = λ i h. alike_four c.args.one.now
    c.args.other.now (4 * c.loop-k.k) c.loop-k.invariant
    (c.four_alike.ensures (c.if-not-four_alike.false)) i (omega arith)

pub returns : goal.returns
returns c = (omega arith, λ i h. c.loop-k.invariant i (omega arith))
