-- A usable store's tree is no taller than the tallest, so that the shift loses nothing.
-- Assumes nothing.
use Rattle.std.proofs.Common.{arith, ap, ◌∙◌}
use Rattle.store.specs.Store.{positions}
use Rattle.store.specs.StoreLaws.{usable_facts, facts_height}
use Rattle.store.proofs.Answers.{shifted_two}
use Rattle.store.proofs.positions_of.Goals as goal

pub height_of-h-requires : goal.height_of-h-requires
height_of-h-requires c = (usable_facts _ c.requires).long

pub overflow_shl-result : goal.overflow_shl-result
overflow_shl-result c = omega (arith, c.height_of-h.ensures, facts_height _ (usable_facts _ c.requires))

pub returns : goal.returns
unfolding positions
returns c = shifted_two _ (omega (arith, c.height_of-h.ensures, facts_height _ (usable_facts _ c.requires)))
    ∙ ap positions c.height_of-h.ensures
