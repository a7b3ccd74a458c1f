use Rattle.std.proofs.Common.{arith, sym, ◌∙◌}
use Rattle.tree.proofs.GeometryLaws.{long_full}
use Rattle.layers.proofs.Finding.{layer_inside, number_none, root_slice, number_here}
use Rattle.layers.proofs.number_by_layer.Goals as goal

pub overflow_add-past : goal.overflow_add-past
overflow_add-past c = let x = c.requires.3 (long_full _ _ (sym c.has_layer.ensures ∙ c.if-has_layer.true)) in omega arith

pub slice_bounds-find_layer-end : goal.slice_bounds-find_layer-end
slice_bounds-find_layer-end c = let x = c.requires.3 (long_full _ _ (sym c.has_layer.ensures ∙ c.if-has_layer.true)) in omega arith

pub slice_bounds-of_layer-end : goal.slice_bounds-of_layer-end
slice_bounds-of_layer-end c = let x = c.requires.3 (long_full _ _ (sym c.has_layer.ensures ∙ c.if-has_layer.true)) in omega arith

pub of_layer-requires : goal.of_layer-requires
of_layer-requires c = (c.requires.1, (sym c.has_layer.ensures ∙ c.if-has_layer.true), c.requires.2, root_slice _ _ (c.requires.3 (long_full _ _ (sym c.has_layer.ensures ∙ c.if-has_layer.true))), rw c.find_layer-layer.ensures (layer_inside _ _), c.requires.4)

pub returns-then-has_layer : goal.returns-then-has_layer
returns-then-has_layer c = number_here _ _ _ _ _ _ _ (sym c.has_layer.ensures ∙ c.if-has_layer.true) c.find_layer-layer.ensures c.of_layer.ensures

pub returns : goal.returns
returns c = sym (number_none _ _ _ _ (sym c.has_layer.ensures ∙ c.if-has_layer.false))
