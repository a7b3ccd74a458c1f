use Rattle.std.proofs.Common.{arith, refl, ◌∙◌}
use Rattle.stream.specs.StepsLaws.{run_holds, part_some, within_part, run_loud, run_again, run_ends}
use Rattle.stream.proofs.run.Goals as goal

pub loop-at-init : goal.loop-at-init
loop-at-init c = (omega arith, c.requires, refl, run_holds c.args.before c.args.room.now c.args.bytes.now)

pub step-p-requires : goal.step-p-requires
step-p-requires c = (c.loop-at.invariant.1, part_some c.args.bytes.now c.loop-at.at c.loop-at-test.true)

pub overflow_add-at : goal.overflow_add-at
overflow_add-at c = let w = within_part c.args.bytes.now c.loop-at.at c.step-p.result.used c.loop-at.invariant.0 c.step-p.ensures.most in
    omega (arith, w)

pub shape_of-room-then-p-ne-DONE : goal.shape_of-room-then-p-ne-DONE
shape_of-room-then-p-ne-DONE c = c.step-p.auto.room ∙ c.loop-at.invariant.2

pub returns-then-p-ne-DONE : goal.returns-then-p-ne-DONE
returns-then-p-ne-DONE c = run_loud c.args.before c.loop-at.t c.args.room.now c.loop-at.room c.args.bytes.now c.loop-at.at
    c.step-p.result c.step-p.new.room c.loop-at.invariant.3 c.step-p.ensures (λ x. c.if-p-ne-DONE.true x.0)

pub shape_of-room-then-p-ne-NO_EVENT : goal.shape_of-room-then-p-ne-NO_EVENT
shape_of-room-then-p-ne-NO_EVENT c = c.step-p.auto.room ∙ c.loop-at.invariant.2

pub returns-then-p-ne-NO_EVENT : goal.returns-then-p-ne-NO_EVENT
returns-then-p-ne-NO_EVENT c = run_loud c.args.before c.loop-at.t c.args.room.now c.loop-at.room c.args.bytes.now
    c.loop-at.at c.step-p.result c.step-p.new.room c.loop-at.invariant.3 c.step-p.ensures
    (λ x. c.if-p-ne-NO_EVENT.true x.1)

pub loop-at-smaller : goal.loop-at-smaller
loop-at-smaller c = let w = within_part c.args.bytes.now c.loop-at.at c.step-p.result.used c.loop-at.invariant.0 c.step-p.ensures.most in
    omega (arith, w, c.step-p.ensures.some, c.loop-at-test.true)

pub loop-at-preserved : goal.loop-at-preserved
loop-at-preserved c = let q = c.step-p.ensures.silent c.if-p-ne-DONE.false c.if-p-ne-NO_EVENT.false in
    (within_part c.args.bytes.now c.loop-at.at c.step-p.result.used c.loop-at.invariant.0 c.step-p.ensures.most, q.1, c.step-p.auto.room ∙ c.loop-at.invariant.2, run_again c.args.before c.loop-at.t c.args.room.now c.loop-at.room c.args.bytes.now c.loop-at.at c.step-p.result c.step-p.new.room c.loop-at.invariant.3 c.step-p.ensures c.if-p-ne-DONE.false c.if-p-ne-NO_EVENT.false)

pub shape_of-room : goal.shape_of-room
shape_of-room c = c.loop-at.invariant.2

pub returns : goal.returns
returns c = let q = run_ends c.args.before c.loop-at.t c.args.room.now c.loop-at.room c.args.bytes.now c.loop-at.at c.loop-at.invariant.3 c.loop-at-test.false in
    (c.without_event.ensures ∙ q.0, q.1)
