use Rattle.std.proofs.Common.{arith, sym, ◌∙◌}
use Rattle.tree.proofs.GeometryLaws.{long_full}
use Rattle.torrent.proofs.Answering.{layer_some, layer_none}
use Rattle.torrent.proofs.one.layer_of.Goals as goal

pub overflow_add-root : goal.overflow_add-root
overflow_add-root c = let x = c.requires (long_full _ _ (sym c.has_layer.ensures ∙ c.if-has_layer.true)) in omega arith

pub slice_bounds-layer_at-end : goal.slice_bounds-layer_at-end
slice_bounds-layer_at-end c = let x = c.requires (long_full _ _ (sym c.has_layer.ensures ∙ c.if-has_layer.true)) in omega arith

pub returns-then-has_layer : goal.returns-then-has_layer
returns-then-has_layer c = layer_some _ _ _ _ _ (sym c.has_layer.ensures ∙ c.if-has_layer.true) _ c.layer_at.ensures

pub returns : goal.returns
returns c = layer_none _ _ _ _ _ (sym c.has_layer.ensures ∙ c.if-has_layer.false)
