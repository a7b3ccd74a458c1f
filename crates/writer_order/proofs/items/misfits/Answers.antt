use Rattle.writer_order.specs.ItemLaws.{none_wanted, odd_size, pieces_counted}
use Rattle.writer_order.proofs.items.misfits.Goals as goal

pub returns-then-not-has_layer : goal.returns-then-not-has_layer
returns-then-not-has_layer c = none_wanted c.args.list.now c.args.text.now c.args.plen
    c.args.p _ _ c.requires.1 c.number_at-n.ensures.0 c.number_at-m.ensures.0 _
    c.has_layer.ensures (c.if-not-has_layer.true)

pub returns-then-m-ne0 : goal.returns-then-m-ne0
returns-then-m-ne0 c = odd_size c.args.list.now c.args.text.now c.args.plen
    c.args.p _ _ c.requires.1 c.number_at-n.ensures.0
    c.number_at-m.ensures.0 _ c.has_layer.ensures (c.if-not-has_layer.false)
    c.if-m-ne0.true

pub returns : goal.returns
returns c = pieces_counted c.args.list.now c.args.text.now
    c.args.plen c.args.p _ _ c.requires.1 c.number_at-n.ensures.0
    c.number_at-m.ensures.0 _ c.has_layer.ensures
    (c.if-not-has_layer.false) c.if-m-ne0.false _ c.piece_count-pieces.ensures
