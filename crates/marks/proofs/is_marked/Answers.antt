use Rattle.std.proofs.Common.{arith}
use Rattle.store.specs.StoreLaws.{usable_facts}
use Rattle.marks.specs.MarksLaws.{mark_in, marks_small}
use Rattle.marks.proofs.Answers.{marked_by}
use Rattle.marks.proofs.is_marked.Goals as goal

pub overflow_add-result : goal.overflow_add-result
overflow_add-result c = omega (arith, c.marks_start-start.ensures, marks_small _ (usable_facts _ c.requires.0), c.requires.1)

pub bounds-store-start : goal.bounds-store-start
bounds-store-start c = omega (arith, c.marks_start-start.ensures, mark_in _ (usable_facts _ c.requires.0), c.requires.1)

pub returns : goal.returns
returns c = marked_by _ _ _ c.marks_start-start.ensures
