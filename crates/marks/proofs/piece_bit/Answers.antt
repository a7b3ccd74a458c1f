-- Past the file's pieces the bit is 0; else it says whether all blocks that the piece covers are marked.
use Rattle.std.proofs.Common.{arith, refl, ◌∙◌}
use Rattle.store.specs.StoreLaws.{usable_facts}
use Rattle.marks.specs.MarksLaws.{covered_fits}
use Rattle.marks.proofs.Answers.{counted, bit_past, bit_by}
use Rattle.marks.proofs.piece_bit.Goals as goal

pub file_length-size-requires : goal.file_length-size-requires
file_length-size-requires c = (usable_facts _ c.requires).long

pub piece_length_of-plen-requires : goal.piece_length_of-plen-requires
piece_length_of-plen-requires c = (usable_facts _ c.requires).long

pub returns-then-piece-c : goal.returns-then-piece-c
returns-then-piece-c c = bit_past _ _ (omega (arith, counted _ _ _ _ c.file_length-size.ensures c.piece_length_of-plen.ensures c.piece_count-c.ensures, c.if-piece-c.true))

pub all_marked-requires : goal.all_marked-requires
all_marked-requires c = (
  c.requires,
  c.marks_start-start.ensures,
  omega (arith, c.blocks_in-n.ensures, c.first_block-first.ensures, covered_fits _ (usable_facts _ c.requires) c.args.piece (omega (arith, counted _ _ _ _ c.file_length-size.ensures c.piece_length_of-plen.ensures c.piece_count-c.ensures, c.if-piece-c.false))),
)

pub returns : goal.returns
returns c = c.from.ensures ∙ bit_by _ _ _ _ _ _ (omega (arith, counted _ _ _ _ c.file_length-size.ensures c.piece_length_of-plen.ensures c.piece_count-c.ensures, c.if-piece-c.false)) c.first_block-first.ensures c.blocks_in-n.ensures c.all_marked.ensures refl
