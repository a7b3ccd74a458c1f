-- Head, run and uncles are written side by side, which is the reply as a whole; room for all of it is known before.
use Rattle.std.proofs.Common.{arith, length}
use Rattle.serve.proofs.Answers.{passed_long, place_reach, run_cells, reply_short, reply_sent}
use Rattle.serve.proofs.send_reply.Goals as goal

pub run_count-c-requires : goal.run_count-c-requires
run_count-c-requires c = let a = c.args in
    let R = place_reach a.store.now a.message.now c.requires.0 a.place c.requires.1 in
    omega (arith, R.few)

pub overflow_mul-n : goal.overflow_mul-n
overflow_mul-n c = let a = c.args in
    let R = place_reach a.store.now a.message.now c.requires.0 a.place c.requires.1 in
    omega (arith, run_cells (length a.store.now) a.place R c.run_count-c.result c.run_count-c.ensures.0)

pub overflow_mul-size : goal.overflow_mul-size
overflow_mul-size c = let a = c.args in
    let R = place_reach a.store.now a.message.now c.requires.0 a.place c.requires.1 in
    omega (arith, R.few)

pub overflow_add-size : goal.overflow_add-size
overflow_add-size c = let a = c.args in
    let R = place_reach a.store.now a.message.now c.requires.0 a.place c.requires.1 in
    omega (arith, R.few, c.run_count-c.ensures.1)

pub returns-then-out-size : goal.returns-then-out-size
returns-then-out-size c = let a = c.args in
    reply_short a.store.now a.message.now a.out.now c.requires.0 a.place c.requires.1 c.run_count-c.result c.run_count-c.ensures.0 c.refusal.result c.if-out-size.true c.refusal.ensures

pub write_head-requires : goal.write_head-requires
write_head-requires c = let a = c.args in
    (omega (arith, c.if-out-size.false), (passed_long a.store.now a.message.now c.requires.0).1)

pub copy_run-requires : goal.copy_run-requires
copy_run-requires c = let a = c.args in
    let R = place_reach a.store.now a.message.now c.requires.0 a.place c.requires.1 in
    (run_cells (length a.store.now) a.place R c.run_count-c.result c.run_count-c.ensures.0, omega (arith, c.if-out-size.false, c.write_head.auto.out))

pub copy_uncles-requires : goal.copy_uncles-requires
copy_uncles-requires c = let a = c.args in
    let R = place_reach a.store.now a.message.now c.requires.0 a.place c.requires.1 in
    (R.uncles, omega (arith, c.if-out-size.false, c.write_head.auto.out, c.copy_run.auto.out))

pub returns : goal.returns
returns c = let a = c.args in
    reply_sent a.store.now a.message.now a.out.now c.requires.0 a.place c.requires.1 c.run_count-c.result c.run_count-c.ensures.0
    c.write_head.new.out c.copy_run.new.out c.copy_uncles.new.out (omega (arith, c.if-out-size.false))
    c.write_head.ensures c.copy_run.ensures c.copy_uncles.ensures c.success.result c.success.ensures
