use Rattle.std.proofs.Common.{arith}
use Rattle.writer_output.specs.PathLaws.{along_start, along_first_end, along_second_end, along_differ, along_same, size_there, element_end_lem}
use Rattle.writer_output.proofs.path.shared_end.Goals as goal

pub loop-at-init : goal.loop-at-init
loop-at-init c = along_start c.args.one.now c.args.other.now c.requires.0 c.requires.1

pub returns-then-other-at : goal.returns-then-other-at
returns-then-other-at c = along_second_end _ _ _ c.loop-at.invariant c.if-other-at.true

pub number_at-m-requires : goal.number_at-m-requires
number_at-m-requires c = (
  size_there c.args.one.now c.loop-at.at
      c.loop-at.invariant.first c.loop-at-test.true,
  omega arith,
)

pub number_at-n-requires : goal.number_at-n-requires
number_at-n-requires c = (
  size_there c.args.other.now c.loop-at.at
      c.loop-at.invariant.second c.if-other-at.false,
  omega arith,
)

pub slice_bounds-x-end : goal.slice_bounds-x-end
slice_bounds-x-end c = element_end_lem c.args.one.now c.loop-at.at
    c.loop-at.invariant.first c.loop-at-test.true _
    c.number_at-m.ensures.0

pub slice_bounds-y-end : goal.slice_bounds-y-end
slice_bounds-y-end c = element_end_lem c.args.other.now
    c.loop-at.at c.loop-at.invariant.second
    c.if-other-at.false _ c.number_at-n.ensures.0

pub returns-then-not-same : goal.returns-then-not-same
returns-then-not-same c = along_differ c.args.one.now
    c.args.other.now
    c.loop-at.at _ _
    c.loop-at.invariant
    c.loop-at-test.true
    c.if-other-at.false c.number_at-m.ensures.0
    c.number_at-n.ensures.0 _ c.same.ensures (c.if-not-same.true)

pub loop-at-preserved : goal.loop-at-preserved
loop-at-preserved c = along_same c.args.one.now
    c.args.other.now
    c.loop-at.at _ _
    c.loop-at.invariant
    c.loop-at-test.true
    c.if-other-at.false c.number_at-m.ensures.0
    c.number_at-n.ensures.0 _ c.same.ensures (c.if-not-same.false)

pub returns : goal.returns
returns c = along_first_end _ _ _ c.loop-at.invariant c.loop-at-test.false
