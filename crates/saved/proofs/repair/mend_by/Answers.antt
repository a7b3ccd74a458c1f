use Rattle.std.proofs.Common.{arith, refl, ◌∙◌, rules}
use Rattle.saved.proofs.Answers.{place_in_tree, mend_turn, mend_end}
use Rattle.saved.proofs.repair.mend_by.Goals as goal

pub loop-k-init : goal.loop-k-init
loop-k-init c = (omega arith, refl, omega arith, refl)

pub mend_two-two-requires : goal.mend_two-two-requires
mend_two-two-requires c = (c.requires.0, omega (arith, c.requires.1, c.loop-k-test.true, c.loop-k.invariant.0), place_in_tree _ _ _ _ c.requires.2 (omega (arith, c.loop-k-test.true, c.loop-k.invariant.0)), place_in_tree _ _ _ _ c.requires.2 (omega (arith, c.loop-k-test.true, c.loop-k.invariant.0)), omega (arith, c.requires.3, c.loop-k.invariant.3), c.requires.4)

pub two_more-kept-requires : goal.two_more-kept-requires
two_more-kept-requires c = let w = c.requires.1 in let e = c.loop-k.invariant.0 in let d = c.loop-k-test.true in search rules

pub left_over-k-requires : goal.left_over-k-requires
left_over-k-requires c = let w = c.requires.1 in let e = c.loop-k.invariant.0 in let d = c.loop-k-test.true in search rules

pub loop-k-smaller : goal.loop-k-smaller
loop-k-smaller c = let w = mend_turn _ _ _ _ _ _ _ _ _ _ _ _ c.loop-k-test.true c.loop-k.invariant.1 c.loop-k.invariant.2 c.loop-k.invariant.0 c.mend_two-two.ensures.0 c.mend_two-two.ensures.1 c.two_more-kept.ensures c.left_over-k.ensures in w.3

pub loop-k-preserved : goal.loop-k-preserved
loop-k-preserved c = let w = mend_turn _ _ _ _ _ _ _ _ _ _ _ _ c.loop-k-test.true c.loop-k.invariant.1 c.loop-k.invariant.2 c.loop-k.invariant.0 c.mend_two-two.ensures.0 c.mend_two-two.ensures.1 c.two_more-kept.ensures c.left_over-k.ensures in (w.2, w.0, w.1, c.mend_two-two.auto.store ∙ c.loop-k.invariant.3)

pub shape_of-store : goal.shape_of-store
shape_of-store c = c.loop-k.invariant.3

pub returns : goal.returns
returns c = mend_end _ _ _ _ _ _ _ _ c.loop-k.invariant.0 c.loop-k-test.false c.loop-k.invariant.1 c.loop-k.invariant.2
