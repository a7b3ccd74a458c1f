use Rattle.writer_order.specs.CompareLaws.{layer_end}
use Rattle.writer_order.specs.LayerLaws.{one_part, parts_compared}
use Rattle.writer_order.proofs.clash.one_layer.Goals as goal

pub returns-then-m-n : goal.returns-then-m-n
returns-then-m-n c = let k = c.args in one_part k.list.now k.text.now k.p k.q
    _ _ _ _ c.number_at-s.ensures.0
    c.number_at-m.ensures.0 c.number_at-t.ensures.0
    c.number_at-n.ensures.0 c.if-s-t.true c.if-m-n.true

pub slice_bounds-same-end : goal.slice_bounds-same-end
slice_bounds-same-end c = layer_end c.args.list.now c.args.text.now c.args.p _
    _ c.requires.0.1 c.number_at-s.ensures.0 c.number_at-m.ensures.0

pub slice_bounds-same-end-2 : goal.slice_bounds-same-end-2
slice_bounds-same-end-2 c = layer_end c.args.list.now c.args.text.now
    c.args.q _ _ c.requires.1.1 c.number_at-t.ensures.0 c.number_at-n.ensures.0

pub returns : goal.returns
returns c = let k = c.args in parts_compared k.list.now
    k.text.now k.p k.q _ _ _ _ c.number_at-s.ensures.0
    c.number_at-m.ensures.0
    c.number_at-t.ensures.0 c.number_at-n.ensures.0 _
    c.same.ensures
