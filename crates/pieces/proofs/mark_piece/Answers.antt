use Rattle.std.proofs.Common.{arith}
use Rattle.store.specs.StoreLaws.{usable_facts}
use Rattle.marks.specs.MarksLaws.{covered_fits}
use Rattle.pieces.proofs.mark_piece.Goals as goal

pub put_marks-requires : goal.put_marks-requires
put_marks-requires c = (c.requires.0, omega (arith, c.blocks_in-n.ensures, c.first_block-first.ensures, covered_fits _ (usable_facts _ c.requires.0) c.args.piece c.requires.1))
