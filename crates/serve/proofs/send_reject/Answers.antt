-- The reject is the head alone.
use Rattle.std.proofs.Common.{arith}
use Rattle.serve.proofs.Answers.{reject_short, reject_sent}
use Rattle.numbers.specs.Refusals.{number_of}
use Rattle.serve.proofs.send_reject.Goals as goal

pub returns-then-out-lt-HEADER_SIZE : goal.returns-then-out-lt-HEADER_SIZE
returns-then-out-lt-HEADER_SIZE c = let a = c.args in
    reject_short a.message.now a.out.now (number_of a.why) c.requires c.refusal.result c.if-out-lt-HEADER_SIZE.true c.refusal.ensures

pub returns : goal.returns
returns c = let a = c.args in
    reject_sent a.message.now a.out.now (number_of a.why) c.requires c.from.result c.from.ensures c.write_head.new.out (omega (arith, c.if-out-lt-HEADER_SIZE.false)) c.write_head.ensures
