use Rattle.stream.specs.StepsLaws.{prefix_below, prefix_stepping, frame_stepping}
use Rattle.stream.proofs.step.Goals as goal

pub prefix_byte-requires : goal.prefix_byte-requires
prefix_byte-requires c = (prefix_below c.args.before _ c.wide-b.result c.requires.0 c.if-before-lt4.true c.wide-b.ensures.1, c.if-before-lt4.true)

pub returns-then-before-lt4 : goal.returns-then-before-lt4
returns-then-before-lt4 c = prefix_stepping c.args.before c.args.room.now c.args.bytes.now c.wide-b.result c.prefix_byte.result
    c.requires.0 c.if-before-lt4.true c.requires.1 c.wide-b.ensures.0 c.wide-b.ensures.1 c.prefix_byte.ensures

pub returns : goal.returns
returns c = frame_stepping c.args.before c.args.room.now c.args.bytes.now c.frame_run.result
    c.frame_run.new.room c.requires.0 c.if-before-lt4.false c.requires.1 c.frame_run.ensures.0
    c.frame_run.ensures.1
