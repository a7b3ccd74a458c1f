use Rattle.std.proofs.Common.{arith}
use Rattle.store.specs.StoreLaws.{usable_facts, facts_blocks_most}
use Rattle.marks.specs.MarksLaws.{first_inside}
use Rattle.marks.proofs.Answers.{first_by}
use Rattle.marks.proofs.first_block.Goals as goal

pub overflow_mul-result : goal.overflow_mul-result
overflow_mul-result c = omega (arith, first_by _ _ c.args.piece c.each_piece-each.ensures, first_inside _ (usable_facts _ c.requires.0) _ c.requires.1, facts_blocks_most _ (usable_facts _ c.requires.0))

pub returns : goal.returns
returns c = first_by _ _ _ c.each_piece-each.ensures
