use Rattle.std.proofs.Common.{arith, ◌≡◌, ap, sym, ◌∙◌}
use Rattle.saved.proofs.Answers.{marks_none, marks_kind, marks_past, marks_back, marks_next}
use Rattle.saved.specs.Form.{marks_good}
use Rattle.saved.proofs.form.marks_good.Goals as goal

pub loop-k-init : goal.loop-k-init
loop-k-init c = let w = marks_none _ _ _ in (w.0, w.1)

pub returns-then-bytes-at-ne3 : goal.returns-then-bytes-at-ne3
returns-then-bytes-at-ne3 c = marks_kind _ _ _ _ _ c.loop-k-test.true c.if-bytes-at-ne3.true

pub block_in-block-requires : goal.block_in-block-requires
block_in-block-requires c = omega (arith, c.requires, c.loop-k-test.true)

pub returns-then-block-blocks : goal.returns-then-block-blocks
returns-then-block-blocks c = marks_past _ _ _ _ _ _ c.loop-k-test.true c.block_in-block.ensures.0 c.if-block-blocks.true

pub returns-then-block-next : goal.returns-then-block-next
returns-then-block-next c = marks_back _ _ _ _ _ _ _ c.loop-k-test.true c.block_in-block.ensures.0 c.loop-k.invariant.1 c.if-block-next.true

pub loop-k-preserved : goal.loop-k-preserved
loop-k-preserved c = let w = marks_next _ _ _ _ _ _ c.loop-k.invariant.0 c.if-bytes-at-ne3.false c.block_in-block.ensures.0 c.if-block-blocks.false c.loop-k.invariant.1 c.if-block-next.false in (w.0, w.1)

pub returns : goal.returns
returns c = let e : c.loop-k.k ≡ c.args.marks = omega (arith, c.loop-k-test.false) in sym (ap (marks_good _ _ _) (sym e) ∙ c.loop-k.invariant.0)
