-- By the loop: x stands u layers above n, and no position on the way to it is held; the first that is held settles the answer.
use Rattle.std.proofs.Common.{arith, ap, sym, ◌∙◌}
use Rattle.asking.proofs.AskingLaws.{needed_is, needed_all, free_more, up_one, up_none}
use Rattle.cells.specs.Cells.{held_at}
use Rattle.asking.proofs.next.uncles_needed.Goals as goal

pub loop-u-init : goal.loop-u-init
loop-u-init c = (up_none c.args.node, omega arith, λ j l. (let w : ⊥ = omega arith in absurd w))

pub held-there-requires : goal.held-there-requires
held-there-requires c = omega (arith, c.requires, c.loop-u.invariant.1)

pub returns-then-there : goal.returns-then-there
returns-then-there c = let a = c.args in
    needed_is a.store.now a.top a.node c.loop-u.u c.loop-u.invariant.2 c.loop-u-test.true
    (ap (held_at a.store.now) (sym c.loop-u.invariant.0) ∙ sym c.held-there.ensures ∙ c.if-there.true)

pub loop-u-preserved : goal.loop-u-preserved
loop-u-preserved c = let a = c.args in (
  up_one c.loop-u.u a.node c.loop-u.x c.loop-u.invariant.0,
  omega (arith, c.loop-u.invariant.1),
  free_more a.store.now a.node c.loop-u.u c.loop-u.invariant.2 (ap (held_at a.store.now) (sym c.loop-u.invariant.0) ∙ sym c.held-there.ensures ∙ c.if-there.false),
)

pub returns : goal.returns
returns c = needed_all _ _ _ (λ j l. c.loop-u.invariant.2 j (omega arith))
