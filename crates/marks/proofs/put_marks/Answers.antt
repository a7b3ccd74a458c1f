use Rattle.std.proofs.Common.{arith}
use Rattle.store.specs.StoreLaws.{usable_facts}
use Rattle.marks.specs.MarksLaws.{mark_in, marks_small}
use Rattle.marks.proofs.Answers.{part_filled, put_by}
use Rattle.marks.proofs.put_marks.Goals as goal

pub overflow_add-at : goal.overflow_add-at
overflow_add-at c = omega (arith, c.marks_start-start.ensures, marks_small _ (usable_facts _ c.requires.0), c.requires.1)

pub overflow_add-at-2 : goal.overflow_add-at-2
overflow_add-at-2 c = omega (arith, c.marks_start-start.ensures, marks_small _ (usable_facts _ c.requires.0), c.requires.1)

pub slice_bounds-fill-end : goal.slice_bounds-fill-end
slice_bounds-fill-end c = omega (arith, c.marks_start-start.ensures, mark_in _ (usable_facts _ c.requires.0), c.requires.1)

pub returns : goal.returns
returns c = put_by _ _ _ _ _ _ c.marks_start-start.ensures (part_filled _ _ _ _ _ _ (omega arith) (omega (arith, c.marks_start-start.ensures, mark_in _ (usable_facts _ c.requires.0), c.requires.1)) (c.fill.ensures.after (λ y e. e)))
