use Rattle.std.proofs.Common.{arith, refl}
use Rattle.writer_output.specs.PutLaws.{going_start}
use Rattle.writer_meaning.specs.Written.{opened}
use Rattle.writer_output.specs.PathLaws.{walking_end, opening_room, opening_room_2, opening_more, size_there, element_end_lem}
use Rattle.writer_output.proofs.path.put_opened.Goals as goal

pub loop-i-init : goal.loop-i-init
loop-i-init c = record { standing = c.requires.0; going = going_start _ _ _ }

pub number_at-m-requires : goal.number_at-m-requires
number_at-m-requires c = (
  size_there c.args.path.now c.loop-i.i c.loop-i.invariant.standing
      c.loop-i-test.true,
  omega arith,
)

pub slice_bounds-put_string-end : goal.slice_bounds-put_string-end
slice_bounds-put_string-end c = element_end_lem c.args.path.now c.loop-i.i
    c.loop-i.invariant.standing c.loop-i-test.true _ c.number_at-m.ensures.0

pub put_string-inside-requires : goal.put_string-inside-requires
put_string-inside-requires c = opening_room _ _ c.args.path.now
    c.args.from _ _ c.loop-i.i _
    c.loop-i.invariant c.loop-i-test.true
    c.number_at-m.ensures.0 _ c.requires.1

pub put_byte-to-requires : goal.put_byte-to-requires
put_byte-to-requires c = opening_room_2 _ _ c.args.path.now
    c.args.from _ _
    c.loop-i.i _
    c.loop-i.invariant
    c.loop-i-test.true
    c.number_at-m.ensures.0 _ _ c.put_string-inside.ensures
    c.put_string-inside.auto.out _
    c.requires.1

pub loop-i-preserved : goal.loop-i-preserved
loop-i-preserved c = opening_more _ _ c.args.path.now c.args.from _ _
    c.loop-i.i _ c.loop-i.invariant c.loop-i-test.true
    c.number_at-m.ensures.0 _ _
    c.put_string-inside.ensures
    c.put_string-inside.auto.out _ _ c.put_byte-to.ensures
    c.put_byte-to.auto.out

pub shape_of-out : goal.shape_of-out
shape_of-out c = c.loop-i.invariant.going.kept

pub returns : goal.returns
returns c = walking_end opened _ _ c.args.path.now c.args.from _ _
    c.loop-i.i (unfold opened in refl) c.loop-i.invariant c.loop-i-test.false
