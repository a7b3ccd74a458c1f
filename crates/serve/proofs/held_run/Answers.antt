-- The loop has found the positions before i held; one that is not held makes the whole run not held.
use Rattle.std.proofs.Common.{arith}
use Rattle.serve.proofs.Loops.{run_none, run_more, run_fails, run_done}
use Rattle.serve.proofs.held_run.Goals as goal

pub loop-i-init : goal.loop-i-init
loop-i-init c = (run_none c.args.store.now c.args.n)

pub returns-then-not-there : goal.returns-then-not-there
returns-then-not-there c = let a = c.args in
    let l = c.loop-i in
    run_fails a.store.now a.n l.i c.held-there.result c.held-there.ensures a.c (omega arith) (c.if-not-there.true)

pub loop-i-preserved : goal.loop-i-preserved
loop-i-preserved c = let a = c.args in
    let l = c.loop-i in
    (run_more a.store.now a.n l.i c.held-there.result c.held-there.ensures l.invariant (c.if-not-there.false))

pub returns : goal.returns
returns c = let a = c.args in
    let l = c.loop-i in
    run_done a.store.now a.n a.c l.i (omega arith) (omega arith) l.invariant
