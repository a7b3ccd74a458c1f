use Rattle.store.specs.StoreLaws.{usable_facts}
use Rattle.marks.proofs.Answers.{blocks_by}
use Rattle.marks.proofs.blocks_in.Goals as goal

pub blocks_of-b-requires : goal.blocks_of-b-requires
blocks_of-b-requires c = (usable_facts _ c.requires).long

pub returns : goal.returns
returns c = blocks_by _ _ _ _ _ c.each_piece-each.ensures c.blocks_of-b.ensures c.piece_size.ensures
