use Rattle.std.proofs.Common.{arith}
use Rattle.store.specs.StoreLaws.{usable_facts}
use Rattle.marks.proofs.Answers.{each_low, each_by}
use Rattle.marks.proofs.each_piece.Goals as goal

pub piece_length_of-plen-requires : goal.piece_length_of-plen-requires
piece_length_of-plen-requires c = (usable_facts _ c.requires).long

pub overflow_shl-result : goal.overflow_shl-result
overflow_shl-result c = omega (arith, each_low _ (usable_facts _ c.requires) _ _ c.piece_length_of-plen.ensures c.piece_layer-p.ensures)

pub returns : goal.returns
returns c = each_by _ (usable_facts _ c.requires) _ _ c.piece_length_of-plen.ensures c.piece_layer-p.ensures
