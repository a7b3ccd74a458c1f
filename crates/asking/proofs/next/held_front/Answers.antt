-- By the loop: all positions before i are held; the first that is not settles the answer.
use Rattle.std.proofs.Common.{arith, sym, ◌∙◌}
use Rattle.asking.proofs.AskingLaws.{front_is, front_all, held_more}
use Rattle.asking.proofs.next.held_front.Goals as goal

pub loop-i-init : goal.loop-i-init
loop-i-init c = (λ j l. (let w : ⊥ = omega arith in absurd w))

pub returns-then-not-there : goal.returns-then-not-there
returns-then-not-there c = front_is _ _ _ c.loop-i.i c.loop-i.invariant c.loop-i-test.true (sym c.held-there.ensures ∙ c.if-not-there.true)

pub loop-i-preserved : goal.loop-i-preserved
loop-i-preserved c = (held_more _ _ c.loop-i.i c.loop-i.invariant (sym c.held-there.ensures ∙ c.if-not-there.false))

pub returns : goal.returns
returns c = front_all _ _ _ (λ j l. c.loop-i.invariant j (omega arith))
