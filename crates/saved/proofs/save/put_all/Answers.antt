use Rattle.std.proofs.Common.{arith, ◌∙◌}
use Rattle.saved.proofs.Saving.{all_put, saved_size, layers_asked, layers_fit_lem, marks_asked, marked_fit, end_fits}
use Rattle.store.specs.StoreLaws.{usable_facts, facts_height}
use Rattle.saved.proofs.save.put_all.Goals as goal

pub file_length-n-requires : goal.file_length-n-requires
file_length-n-requires c = (usable_facts _ c.requires.0).long

pub piece_length_of-plen-requires : goal.piece_length_of-plen-requires
piece_length_of-plen-requires c = (usable_facts _ c.requires.0).long

pub facts_root-root-requires : goal.facts_root-root-requires
facts_root-root-requires c = (usable_facts _ c.requires.0).long

pub put_opening-requires : goal.put_opening-requires
put_opening-requires c = omega (arith, c.requires.2, saved_size _ (usable_facts _ c.requires.0))

pub height_of-h-requires : goal.height_of-h-requires
height_of-h-requires c = (usable_facts _ c.requires.0).long

pub overflow_add-h : goal.overflow_add-h
overflow_add-h c = omega (arith, c.height_of-h.ensures, facts_height _ (usable_facts _ c.requires.0))

pub put_layers-behind-requires : goal.put_layers-behind-requires
put_layers-behind-requires c = let w = layers_asked _ c.requires.0 _ c.height_of-h.ensures in (w.0, w.1, w.2, layers_fit_lem _ c.args.out.now c.put_opening.new.out c.requires.0 _ c.height_of-h.ensures c.requires.2 c.put_opening.auto.out)

pub blocks_of-c-requires : goal.blocks_of-c-requires
blocks_of-c-requires c = (usable_facts _ c.requires.0).long

pub put_marked-end-requires : goal.put_marked-end-requires
put_marked-end-requires c = (c.requires.0, marks_asked _ c.requires.0 _ c.blocks_of-c.ensures, marked_fit _ c.args.out.now c.put_layers-behind.new.out c.requires.0 _ _ _ c.height_of-h.ensures c.put_layers-behind.ensures.0 c.blocks_of-c.ensures c.requires.2 (c.put_layers-behind.auto.out ∙ c.put_opening.auto.out))

pub put_short-requires : goal.put_short-requires
put_short-requires c = end_fits _ c.args.out.now c.put_marked-end.new.out c.requires.0 _ _ _ _ c.height_of-h.ensures c.put_layers-behind.ensures.0 c.blocks_of-c.ensures c.put_marked-end.ensures.0 c.requires.2 (c.put_marked-end.auto.out ∙ c.put_layers-behind.auto.out ∙ c.put_opening.auto.out)

pub shape_of-out : goal.shape_of-out
shape_of-out c = c.put_short.auto.out ∙ c.put_marked-end.auto.out ∙ c.put_layers-behind.auto.out ∙ c.put_opening.auto.out

pub returns : goal.returns
returns c = all_put _ (usable_facts _ c.requires.0) _ _ _ _ _ _ _ _ _ _ _ _ _ c.requires.2 c.file_length-n.ensures c.piece_length_of-plen.ensures c.facts_root-root.ensures c.put_opening.ensures c.height_of-h.ensures c.put_layers-behind.ensures.0 c.put_layers-behind.ensures.1 c.blocks_of-c.ensures c.put_marked-end.ensures.0 c.put_marked-end.ensures.1 c.requires.1 c.put_short.ensures
