use Rattle.std.proofs.Common.{sym, ◌∙◌}
use Rattle.writer_order.specs.CompareLaws.{layer_end}
use Rattle.writer_order.specs.LayerLaws.{no_layer, layer_gives, layer_does_not, root_length}
use Rattle.writer_order.proofs.clash.gives_other.Goals as goal

pub returns-then-not-has_layer : goal.returns-then-not-has_layer
returns-then-not-has_layer c = let k = c.args in
    no_layer k.list.now k.text.now k.plen k.p _ c.number_at-n.ensures.0 _ c.has_layer.ensures c.if-not-has_layer.true

pub slice_bounds-gives_root-end : goal.slice_bounds-gives_root-end
slice_bounds-gives_root-end c = layer_end c.args.list.now c.args.text.now
    c.args.p _ _ c.requires.0.1 c.number_at-s.ensures.0 c.number_at-m.ensures.0

pub gives_root-requires : goal.gives_root-requires
gives_root-requires c = (
  c.requires.1,
  sym c.has_layer.ensures ∙ c.if-not-has_layer.false,
  root_length c.args.list.now c.args.p c.requires.0.0,
)

pub returns-then-gives_root : goal.returns-then-gives_root
returns-then-gives_root c = let k = c.args in layer_gives k.list.now k.text.now k.plen k.p _
    c.number_at-n.ensures.0 _ c.has_layer.ensures (c.if-not-has_layer.false) _ _
    c.number_at-s.ensures.0 c.number_at-m.ensures.0 _ c.gives_root.ensures c.if-gives_root.true

pub returns : goal.returns
returns c = let k = c.args in layer_does_not k.list.now k.text.now k.plen k.p _
    c.number_at-n.ensures.0 _ c.has_layer.ensures (c.if-not-has_layer.false) _ _
    c.number_at-s.ensures.0 c.number_at-m.ensures.0 _ c.gives_root.ensures c.if-gives_root.false
