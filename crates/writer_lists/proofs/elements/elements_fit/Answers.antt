use Rattle.std.proofs.Common.{sym}
use Rattle.writer_lists.specs.ListsLaws.{left_start, left_end, left_short, left_past, left_more}
use Rattle.writer_lists.proofs.elements.elements_fit.Goals as goal

pub loop-at-init : goal.loop-at-init
loop-at-init c = left_start c.args.path.now

pub returns-then-left-lt4 : goal.returns-then-left-lt4
returns-then-left-lt4 c = sym (left_short c.args.path.now c.loop-at.at c.loop-at.invariant
    c.loop-at-test.true c.if-left-lt4.true)

pub returns-then-left-size : goal.returns-then-left-size
returns-then-left-size c = sym (left_past c.args.path.now c.loop-at.at
    c.loop-at.invariant c.loop-at-test.true c.if-left-lt4.false
    (rw c.number_at-size.ensures.0 at c.if-left-size.true))

pub loop-at-preserved : goal.loop-at-preserved
loop-at-preserved c = rw c.number_at-size.ensures.0 (left_more c.args.path.now
    c.loop-at.at c.loop-at.invariant
    c.loop-at-test.true c.if-left-lt4.false
    (rw c.number_at-size.ensures.0 at c.if-left-size.false))

pub returns : goal.returns
returns c = sym (left_end c.args.path.now c.loop-at.at c.loop-at.invariant c.loop-at-test.false)
