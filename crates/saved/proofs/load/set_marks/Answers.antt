use Rattle.std.proofs.Common.{arith, ◌≡◌, refl, ap, sym, ◌∙◌}
use Rattle.saved.proofs.Answers.{marks_ready, marks_turn}
use Rattle.store.specs.StoreLaws.{facts_usable}
use Rattle.saved.proofs.LoadLaws.{marks_set_none}
use Rattle.saved.specs.Saved.{marks_set}
use Rattle.saved.proofs.load.set_marks.Goals as goal

pub marks_start-start-requires : goal.marks_start-start-requires
marks_start-start-requires c = facts_usable _ c.requires.0

pub loop-k-init : goal.loop-k-init
loop-k-init c = (sym (marks_set_none _ _ _), refl)

pub block_in-block-requires : goal.block_in-block-requires
block_in-block-requires c = omega (arith, c.requires.2, c.loop-k-test.true)

pub set_mark-requires : goal.set_mark-requires
set_mark-requires c = marks_ready _ _ _ _ _ _ _ c.requires.0 c.requires.1 c.loop-k-test.true c.loop-k.invariant.0 c.block_in-block.ensures.0 _ c.marks_start-start.ensures

pub loop-k-preserved : goal.loop-k-preserved
loop-k-preserved c = (marks_turn _ _ _ _ _ _ _ c.requires.0 c.requires.1 c.loop-k-test.true c.loop-k.invariant.0 c.block_in-block.ensures.0 _ c.set_mark.ensures, c.set_mark.auto.store ∙ c.loop-k.invariant.1)

pub shape_of-store : goal.shape_of-store
shape_of-store c = c.loop-k.invariant.1

pub returns : goal.returns
returns c = let e : c.loop-k.k ≡ c.args.m = omega (arith, c.loop-k-test.false) in c.loop-k.invariant.0 ∙ ap (marks_set _ _ _) e
