use Rattle.std.proofs.Common.{arith, refl}
use Rattle.writer_output.specs.PutLaws.{going_start}
use Rattle.writer_output.specs.PathLaws.{closing, walking_end, closing_room, closing_more, size_there}
use Rattle.writer_output.proofs.path.put_closed.Goals as goal

pub loop-i-init : goal.loop-i-init
loop-i-init c = record { standing = c.requires.0; going = going_start _ _ _ }

pub number_at-m-requires : goal.number_at-m-requires
number_at-m-requires c = (
  size_there c.args.path.now c.loop-i.i c.loop-i.invariant.standing
      c.loop-i-test.true,
  omega arith,
)

pub put_byte-to-requires : goal.put_byte-to-requires
put_byte-to-requires c = closing_room _ _ c.args.path.now
    c.args.from _ _ c.loop-i.i _
    c.loop-i.invariant c.loop-i-test.true c.number_at-m.ensures.0 _
    c.requires.1

pub loop-i-preserved : goal.loop-i-preserved
loop-i-preserved c = closing_more _ _ c.args.path.now
    c.args.from _ _
    c.loop-i.i _ c.loop-i.invariant
    c.loop-i-test.true c.number_at-m.ensures.0 _ _
    c.put_byte-to.ensures c.put_byte-to.auto.out

pub shape_of-out : goal.shape_of-out
shape_of-out c = c.loop-i.invariant.going.kept

pub returns : goal.returns
returns c = walking_end closing _ _ c.args.path.now c.args.from _ _
    c.loop-i.i refl c.loop-i.invariant c.loop-i-test.false
