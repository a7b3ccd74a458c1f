use Rattle.std.proofs.Common.{arith}
use Rattle.writer_output.specs.PutLaws.{put_set, put_outside}
use Rattle.writer_output.proofs.plain.put_byte.Goals as goal

pub returns-then-at-out : goal.returns-then-at-out
returns-then-at-out c = put_set c.args.out.now c.args.at c.args.byte c.if-at-out.true

pub returns : goal.returns
returns c = put_outside c.args.out.now c.args.at _ (omega arith)
