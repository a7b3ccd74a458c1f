use Rattle.std.proofs.Common.{sym}
use Rattle.bencode.specs.Grammar.{precedes}
use Rattle.writer_meaning.specs.Content.{path_before}
use Rattle.writer_lists.specs.PathsLaws.{walk_second_end, before_step, before_none, before_first_end, element_size, element_end_lem, slices_differ, slices_same}
use Rattle.writer_lists.proofs.paths.before_from.Goals as goal

pub loop-at-init : goal.loop-at-init
loop-at-init c = c.requires

pub returns-then-other-at : goal.returns-then-other-at
returns-then-other-at c = sym (walk_second_end path_before before_none c.args.one.now
    c.args.other.now c.loop-at.at c.loop-at.invariant
    c.loop-at-test.true c.if-other-at.true)

pub word_at-m-requires : goal.word_at-m-requires
word_at-m-requires c = element_size c.args.one.now c.loop-at.at
    c.loop-at.invariant.left c.loop-at-test.true

pub word_at-n-requires : goal.word_at-n-requires
word_at-n-requires c = element_size c.args.other.now c.loop-at.at
    c.loop-at.invariant.right c.if-other-at.false

pub slice_bounds-x-end : goal.slice_bounds-x-end
slice_bounds-x-end c = element_end_lem c.args.one.now c.loop-at.at _
    c.loop-at.invariant.left c.loop-at-test.true c.word_at-m.ensures.0

pub slice_bounds-y-end : goal.slice_bounds-y-end
slice_bounds-y-end c = element_end_lem c.args.other.now
    c.loop-at.at _ c.loop-at.invariant.right
    c.if-other-at.false c.word_at-n.ensures.0

pub returns-then-not-same : goal.returns-then-not-same
returns-then-not-same c = slices_differ path_before precedes before_step
    c.args.one.now
    c.args.other.now
    c.loop-at.at
    c.loop-at.invariant
    c.loop-at-test.true
    c.if-other-at.false _ _
    c.word_at-m.ensures.0
    c.word_at-n.ensures.0 _ _ c.same.ensures
    (c.if-not-same.true) c.comes_before.ensures

pub loop-at-preserved : goal.loop-at-preserved
loop-at-preserved c = slices_same path_before precedes before_step
    c.args.one.now
    c.args.other.now
    c.loop-at.at
    c.loop-at.invariant
    c.loop-at-test.true
    c.if-other-at.false _ _ c.word_at-m.ensures.0
    c.word_at-n.ensures.0 _ c.same.ensures (c.if-not-same.false)

pub returns : goal.returns
returns c = before_first_end c.args.one.now c.args.other.now
    c.loop-at.at c.loop-at.invariant c.loop-at-test.false
