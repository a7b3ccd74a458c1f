-- By the loop: the blocks looked at so far are all marked; a byte that isn't 1 settles the answer.
use Rattle.std.proofs.Common.{arith, refl, sym}
use Rattle.store.specs.StoreLaws.{usable_facts}
use Rattle.marks.specs.MarksLaws.{mark_in, marks_small, all_marked_not, all_marked_more}
use Rattle.marks.proofs.Answers.{marked_one, marked_none}
use Rattle.marks.specs.Marks.{all_marked}
use Rattle.marks.proofs.all_marked.Goals as goal

pub overflow_add-at : goal.overflow_add-at
overflow_add-at c = let p = c.requires in omega (arith, p.1, marks_small _ (usable_facts _ p.0), p.2)

pub loop-i-init : goal.loop-i-init
unfolding all_marked
loop-i-init c = (refl)

pub overflow_add-at-in-loop-i : goal.overflow_add-at-in-loop-i
overflow_add-at-in-loop-i c = let p = c.requires in omega (arith, p.1, marks_small _ (usable_facts _ p.0), p.2)

pub bounds-store-at : goal.bounds-store-at
bounds-store-at c = let p = c.requires in omega (arith, p.1, mark_in _ (usable_facts _ p.0), p.2)

pub returns-then-store-at-ne1 : goal.returns-then-store-at-ne1
returns-then-store-at-ne1 c = sym (all_marked_not _ _ _ c.loop-i.i (omega arith) (marked_none _ _ _ _ c.requires.1 c.if-store-at-ne1.true))

pub loop-i-preserved : goal.loop-i-preserved
loop-i-preserved c = (all_marked_more _ _ _ c.loop-i.invariant (marked_one _ _ _ _ c.requires.1 c.if-store-at-ne1.false))
