-- The files before i are written (`Growing`): the next file's record has the form, and its path is a part of the text.
use Rattle.std.proofs.Common.{arith, ◌+◌, ◌≤◌, length, ◌∙◌, rules}
use Rattle.writer_lists.specs.Lists.{record_size}
use Rattle.writer_order.specs.OrderLaws.{placed_index}
use Rattle.writer_output.specs.FilesLaws.{growing_start, part_end, part_standing, file_room, growing_more, last_room, closed_room, growing_end}
use Rattle.writer_output.proofs.file.put_tree.Goals as goal

pub slice_bounds-put_file-end-in-loop-i : goal.slice_bounds-put_file-end-in-loop-i
slice_bounds-put_file-end-in-loop-i c = part_end c.loop-i.invariant c.loop-i-test.true c.requires.0 _ c.index-place.ensures _ _ c.number_at-s.ensures.0
    c.number_at-m.ensures.0

pub put_file-to-requires : goal.put_file-to-requires
put_file-to-requires c = let g = c.loop-i.invariant in let h = c.loop-i-test.true in let e = c.index-place.ensures in
    let a = c.number_at-s.ensures.0 in let b = c.number_at-m.ensures.0 in (
      g.standing,
      part_standing g h c.requires.0 _ e _ _ a b,
      (let it : c.index-place.result + record_size ≤ length c.args.list.now = (placed_index c.args.list.now c.args.text.now c.args.order.now c.loop-i.i _ c.requires.0
          c.loop-i-test.true c.index-place.ensures).0 in it),
      file_room g h c.requires.0 _ e _ _ a b _ c.requires.1,
    )

pub loop-i-preserved : goal.loop-i-preserved
loop-i-preserved c = growing_more c.loop-i.invariant c.loop-i-test.true c.requires.0 _ c.index-place.ensures _ _ c.number_at-s.ensures.0
    c.number_at-m.ensures.0 _ _ c.put_file-to.ensures c.put_file-to.auto.out

pub put_byte-last-requires : goal.put_byte-last-requires
put_byte-last-requires c = last_room c.loop-i.invariant c.loop-i-test.false _ c.requires.1

pub put_closed-requires : goal.put_closed-requires
put_closed-requires c = (
  c.loop-i.invariant.standing,
  closed_room c.loop-i.invariant c.loop-i-test.false _ _ c.put_byte-last.ensures c.put_byte-last.auto.out _ c.requires.1,
)

pub shape_of-out : goal.shape_of-out
shape_of-out c = c.put_closed.auto.out ∙ c.put_byte-last.auto.out ∙ c.loop-i.invariant.going.kept

pub returns : goal.returns
returns c = growing_end c.loop-i.invariant c.loop-i-test.false _ _ c.put_byte-last.ensures c.put_byte-last.auto.out _ _
    c.put_closed.ensures

pub loop-i-init : goal.loop-i-init
loop-i-init c = growing_start _ _ _ _ _

pub overflow_add-place : goal.overflow_add-place
overflow_add-place c = let w = (let it : c.index-place.result + record_size ≤ length c.args.list.now = (placed_index c.args.list.now c.args.text.now c.args.order.now c.loop-i.i _ c.requires.0
    c.loop-i-test.true c.index-place.ensures).0 in it) in search rules

pub number_at-s-requires : goal.number_at-s-requires
number_at-s-requires c = let w = (let it : c.index-place.result + record_size ≤ length c.args.list.now = (placed_index c.args.list.now c.args.text.now c.args.order.now c.loop-i.i _ c.requires.0
    c.loop-i-test.true c.index-place.ensures).0 in it) in (omega arith, omega arith)

pub overflow_add-place-in-loop-i : goal.overflow_add-place-in-loop-i
overflow_add-place-in-loop-i c = let w = (let it : c.index-place.result + record_size ≤ length c.args.list.now = (placed_index c.args.list.now c.args.text.now c.args.order.now c.loop-i.i _ c.requires.0
    c.loop-i-test.true c.index-place.ensures).0 in it) in search rules

pub overflow_add-place-in-loop-i-2 : goal.overflow_add-place-in-loop-i-2
overflow_add-place-in-loop-i-2 c = let w = (let it : c.index-place.result + record_size ≤ length c.args.list.now = (placed_index c.args.list.now c.args.text.now c.args.order.now c.loop-i.i _ c.requires.0
    c.loop-i-test.true c.index-place.ensures).0 in it) in search rules

pub number_at-m-requires : goal.number_at-m-requires
number_at-m-requires c = let w = (let it : c.index-place.result + record_size ≤ length c.args.list.now = (placed_index c.args.list.now c.args.text.now c.args.order.now c.loop-i.i _ c.requires.0
    c.loop-i-test.true c.index-place.ensures).0 in it) in (omega arith, omega arith)

pub slice_bounds-put_file-end : goal.slice_bounds-put_file-end
slice_bounds-put_file-end c = c.loop-i.invariant.inside

pub slice_bounds-put_closed-end : goal.slice_bounds-put_closed-end
slice_bounds-put_closed-end c = c.loop-i.invariant.inside
