-- The entries of the records before i are written (`Listing`): the next record has the form, and an entry if its layer is not empty.
use Rattle.std.proofs.Common.{arith, ◌∙◌, rules}
use Rattle.writer_order.specs.Order.{InForm}
use Rattle.writer_order.specs.OrderLaws.{placed_index}
use Rattle.writer_output.specs.LayersLaws.{listing_start, listing_skip, layer_room, listing_more, end_room, listing_end}
use Rattle.writer_output.proofs.layer.put_layers.Goals.{then-size-ne0, else-size-ne0}
use Rattle.writer_output.proofs.layer.put_layers.Goals as goal

pub put_layer-to-requires : goal.put_layer-to-requires
put_layer-to-requires c = let g = c.loop-i.invariant in let h = c.loop-i-test.true in let pre = c.requires in
    let e = c.index-place.ensures in let b = c.number_at-size.ensures.0 in let z = c.if-size-ne0.true in (
      (let it : InForm c.args.list.now c.args.text.now c.index-place.result = placed_index c.args.list.now c.args.text.now c.args.order.now c.loop-i.i _
          c.requires.0 c.loop-i-test.true c.index-place.ensures in it),
      g.inside,
      layer_room g h pre.0 _ e _ b z _ pre.1,
    )

pub loop-i-preserved : goal.loop-i-preserved
loop-i-preserved c = elim c.if-size-ne0.branch [
  | then-size-ne0 w ↦ rw (w.out-is, w.to-is, w.last-is)
      (listing_more c.loop-i.invariant c.loop-i-test.true c.requires.0 _ c.index-place.ensures _
      c.number_at-size.ensures.0 w.if-size-ne0.true _ _ w.put_layer-to.ensures w.put_layer-to.auto.out)
  | else-size-ne0 w ↦ rw (w.out-is, w.to-is, w.last-is)
      (listing_skip c.loop-i.invariant c.loop-i-test.true c.requires.0 _ c.index-place.ensures _
      c.number_at-size.ensures.0 w.if-size-ne0.false)
]

pub put_byte-requires : goal.put_byte-requires
put_byte-requires c = end_room c.loop-i.invariant c.loop-i-test.false _ c.requires.1

pub shape_of-out : goal.shape_of-out
shape_of-out c = c.put_byte.auto.out ∙ c.loop-i.invariant.going.kept

pub returns : goal.returns
returns c = listing_end c.loop-i.invariant c.loop-i-test.false _ _ c.put_byte.ensures

pub loop-i-init : goal.loop-i-init
loop-i-init c = listing_start _ _ _ _ _

pub overflow_add-place : goal.overflow_add-place
overflow_add-place c = let w = (let it : InForm c.args.list.now c.args.text.now c.index-place.result = placed_index c.args.list.now c.args.text.now c.args.order.now c.loop-i.i _
    c.requires.0 c.loop-i-test.true c.index-place.ensures in it).0 in search rules

pub overflow_add-place-in-loop-i : goal.overflow_add-place-in-loop-i
overflow_add-place-in-loop-i c = let w = (let it : InForm c.args.list.now c.args.text.now c.index-place.result = placed_index c.args.list.now c.args.text.now c.args.order.now c.loop-i.i _
    c.requires.0 c.loop-i-test.true c.index-place.ensures in it).0 in search rules

pub number_at-size-requires : goal.number_at-size-requires
number_at-size-requires c = let w = (let it : InForm c.args.list.now c.args.text.now c.index-place.result = placed_index c.args.list.now c.args.text.now c.args.order.now c.loop-i.i _
    c.requires.0 c.loop-i-test.true c.index-place.ensures in it).0 in (omega arith, omega arith)
