use Rattle.std.proofs.Common.{◌+◌}
use Rattle.writer_order.specs.ItemLaws.{deep_is}
use Rattle.writer_order.specs.CompareLaws.{form_parts}
use Rattle.writer_lists.specs.ListsLaws.{slice_end, slice_fits}
use Rattle.writer_order.proofs.items.too_deep.Goals as goal

pub slice_bounds-depth-end : goal.slice_bounds-depth-end
slice_bounds-depth-end c = slice_end c.args.list.now c.args.text.now (c.args.p + 48) _ _
    (form_parts c.args.list.now c.args.text.now c.args.p c.requires.1).path_fits c.number_at-s.ensures.0
    c.number_at-m.ensures.0

pub depth-elements-requires : goal.depth-elements-requires
depth-elements-requires c = slice_fits c.args.list.now c.args.text.now c.args.p _ _ c.requires.1
    c.number_at-s.ensures.0 c.number_at-m.ensures.0

pub returns : goal.returns
returns c = let k = c.args in deep_is k.list.now k.text.now k.p _ _
    c.number_at-s.ensures.0 c.number_at-m.ensures.0 _ c.depth-elements.ensures.0
