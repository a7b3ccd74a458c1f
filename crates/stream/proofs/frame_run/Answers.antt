use Rattle.std.proofs.Common.{arith}
use Rattle.stream.specs.StepsLaws.{frame_ended, frame_inside, keep_fits}
use Rattle.stream.proofs.frame_run.Goals as goal

pub overflow_sub-left : goal.overflow_sub-left
overflow_sub-left c = let i = c.requires.0.in_frame c.requires.1 in omega (arith, i.2)

pub keep-requires : goal.keep-requires
keep-requires c = keep_fits c.args.before _ _ c.mode_at-mode.result c.min-n.result _ c.args.bytes.now c.requires.0
    c.requires.1 c.mode_at-mode.ensures c.min-n.ensures

pub returns-then-n-left : goal.returns-then-n-left
returns-then-n-left c = frame_ended c.args.before c.args.room.now c.args.bytes.now c.mode_at-mode.result c.min-n.result _
    c.keep.new.room c.requires.0 c.requires.1 c.mode_at-mode.ensures c.min-n.ensures c.if-n-left.true
    c.keep.ensures c.ended.ensures

pub standing-next-requires : goal.standing-next-requires
standing-next-requires c = let i = c.requires.0.in_frame c.requires.1 in
    (omega (arith, i.1), omega (arith, i.1, i.2, c.min-n.ensures))

pub returns : goal.returns
returns c = frame_inside c.args.before c.args.room.now c.args.bytes.now c.mode_at-mode.result c.min-n.result _ _ _ c.keep.new.room c.requires.0 c.requires.1 c.mode_at-mode.ensures c.min-n.ensures c.if-n-left.false c.keep.ensures (omega arith) c.standing-next.ensures c.without_event.ensures
