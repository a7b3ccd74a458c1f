use Rattle.std.proofs.Common.{ℕ, refl, sym, Bool, false, List}
use Rattle.writer_meaning.specs.Number.{begins}
use Rattle.writer_lists.specs.PathsLaws.{walk_start, walk_second_end, begins_step, begins_none, begins_first_end, element_size, element_end_lem, slices_differ, slices_same}
use Rattle.writer_lists.proofs.paths.path_begins.Goals as goal

-- elements that differ answer no
abbrev no : List ℕ → List ℕ → Bool
no e f = false

pub loop-at-init : goal.loop-at-init
loop-at-init c = walk_start begins c.args.one.now c.args.other.now c.requires.0 c.requires.1

pub returns-then-other-at : goal.returns-then-other-at
returns-then-other-at c = let k = c.args in sym
    (walk_second_end begins begins_none k.one.now k.other.now c.loop-at.at c.loop-at.invariant
    c.loop-at-test.true c.if-other-at.true)

pub word_at-m-requires : goal.word_at-m-requires
word_at-m-requires c = element_size c.args.one.now c.loop-at.at
    c.loop-at.invariant.left c.loop-at-test.true

pub word_at-n-requires : goal.word_at-n-requires
word_at-n-requires c = element_size c.args.other.now c.loop-at.at
    c.loop-at.invariant.right c.if-other-at.false

pub slice_bounds-same-end : goal.slice_bounds-same-end
slice_bounds-same-end c = element_end_lem c.args.one.now c.loop-at.at _
    c.loop-at.invariant.left c.loop-at-test.true c.word_at-m.ensures.0

pub slice_bounds-same-end-in-loop-at : goal.slice_bounds-same-end-in-loop-at
slice_bounds-same-end-in-loop-at c = element_end_lem c.args.other.now
    c.loop-at.at _ c.loop-at.invariant.right
    c.if-other-at.false c.word_at-n.ensures.0

pub returns-then-not-same : goal.returns-then-not-same
returns-then-not-same c = let k = c.args in slices_differ begins no
    begins_step k.one.now k.other.now c.loop-at.at
    c.loop-at.invariant
    c.loop-at-test.true
    c.if-other-at.false _ _ c.word_at-m.ensures.0
    c.word_at-n.ensures.0 _ false c.same.ensures (c.if-not-same.true) refl

pub loop-at-preserved : goal.loop-at-preserved
loop-at-preserved c = let k = c.args in slices_same begins no
    begins_step k.one.now k.other.now c.loop-at.at
    c.loop-at.invariant
    c.loop-at-test.true
    c.if-other-at.false _ _ c.word_at-m.ensures.0
    c.word_at-n.ensures.0 _ c.same.ensures (c.if-not-same.false)

pub returns : goal.returns
returns c = let k = c.args in sym
    (begins_first_end k.one.now k.other.now c.loop-at.at c.loop-at.invariant c.loop-at-test.false)
