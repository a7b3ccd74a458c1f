-- The loop has copied the bytes before number i, and the id stands before them.
use Rattle.std.proofs.Common.{arith}
use Rattle.serve.proofs.Loops.{head_one, head_more, head_length, head_done}
use Rattle.serve.proofs.write_head.Goals as goal

pub loop-i-init : goal.loop-i-init
loop-i-init c = let a = c.args in
    (omega arith, omega arith, head_one a.out.now a.message.now a.id c.requires.0 c.requires.1)

pub bounds-out-i : goal.bounds-out-i
bounds-out-i c = let a = c.args in
    let l = c.loop-i in
    omega (arith, c.requires, head_length a.out.now a.message.now a.id c.requires.0 c.requires.1 l.i l.out l.invariant.2 l.invariant.1)

pub loop-i-preserved : goal.loop-i-preserved
loop-i-preserved c = let a = c.args in
    let l = c.loop-i in
    (omega arith, omega arith, head_more a.out.now a.message.now a.id c.requires.0 c.requires.1 l.i l.out l.invariant.2 l.invariant.0 (omega arith))

pub shape_of-out : goal.shape_of-out
shape_of-out c = let a = c.args in
    let l = c.loop-i in
    head_length a.out.now a.message.now a.id c.requires.0 c.requires.1 l.i l.out l.invariant.2 l.invariant.1

pub returns : goal.returns
returns c = let a = c.args in
    let l = c.loop-i in
    head_done a.out.now a.message.now a.id c.requires.0 c.requires.1 l.i l.out l.invariant.2 l.invariant.1 (omega arith)
