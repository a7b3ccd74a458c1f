use Rattle.std.proofs.Common.{rules}
use Rattle.bencode.specs.Grammar.{precedes}
use Rattle.writer_meaning.specs.Content.{path_before}
use Rattle.writer_lists.specs.PathsLaws.{walk_start, before_step, before_first_end, element_size, element_end_lem, front_more, front_inside, before_inside}
use Rattle.writer_lists.proofs.paths.path_before.Goals as goal

pub loop-at-init : goal.loop-at-init
loop-at-init c = (
  search rules,
  walk_start path_before c.args.one.now c.args.other.now
      c.requires.0 c.requires.1,
  c.front-n.ensures,
)

pub word_at-m-requires : goal.word_at-m-requires
word_at-m-requires c = element_size c.args.one.now c.loop-at.at c.loop-at.invariant.1.left
    c.loop-at-test.true

pub before_from-requires : goal.before_from-requires
before_from-requires c = c.loop-at.invariant.1

pub returns-then-n-start : goal.returns-then-n-start
returns-then-n-start c = c.before_from.ensures

pub bounds-one-n : goal.bounds-one-n
bounds-one-n c = let e = element_end_lem c.args.one.now
    c.loop-at.at _ c.loop-at.invariant.1.left
    c.loop-at-test.true c.word_at-m.ensures.0 in search rules

pub bounds-other-n : goal.bounds-other-n
bounds-other-n c = let e = front_inside c.args.one.now
    c.args.other.now
    c.loop-at.at _ c.loop-at.invariant.2
    path_before precedes before_step c.loop-at.invariant.1
    c.loop-at-test.true _ c.word_at-m.ensures.0
    c.if-n-start.false c.if-n-end.true in search rules

pub returns-then-n-end : goal.returns-then-n-end
returns-then-n-end c = before_inside c.args.one.now
    c.args.other.now
    c.loop-at.at _ _ c.loop-at.invariant.2
    c.loop-at.invariant.1 c.loop-at-test.true
    c.word_at-m.ensures.0 c.if-n-start.false c.if-n-end.true

pub loop-at-preserved : goal.loop-at-preserved
loop-at-preserved c = (
  c.if-n-end.false,
  front_more c.args.one.now
      c.args.other.now c.loop-at.at _
      c.loop-at.invariant.2 path_before precedes before_step c.loop-at.invariant.1
      c.loop-at-test.true _ c.word_at-m.ensures.0 c.if-n-end.false,
  c.loop-at.invariant.2,
)

pub returns : goal.returns
returns c = before_first_end c.args.one.now c.args.other.now
    c.loop-at.at c.loop-at.invariant.1 c.loop-at-test.false
