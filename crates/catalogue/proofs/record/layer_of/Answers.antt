use Rattle.std.proofs.Common.{arith, sym, ◌∙◌}
use Rattle.tree.proofs.GeometryLaws.{long_full}
use Rattle.catalogue.proofs.Writing.{layer_long, layer_short}
use Rattle.catalogue.proofs.record.layer_of.Goals as goal

pub overflow_add-root : goal.overflow_add-root
overflow_add-root c = let x = c.requires.1 (long_full _ _ (sym c.has_layer.ensures ∙ c.if-has_layer.true)) in omega arith

pub slice_bounds-find_layer-end : goal.slice_bounds-find_layer-end
slice_bounds-find_layer-end c = let x = c.requires.1 (long_full _ _ (sym c.has_layer.ensures ∙ c.if-has_layer.true)) in omega arith

pub returns-then-has_layer : goal.returns-then-has_layer
returns-then-has_layer c = layer_long _ _ _ _ _ _ c.requires.2 (sym c.has_layer.ensures ∙ c.if-has_layer.true) _ c.find_layer.ensures

pub returns : goal.returns
returns c = layer_short _ _ _ _ _ _ c.requires.2 (sym c.has_layer.ensures ∙ c.if-has_layer.false)
