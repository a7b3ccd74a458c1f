-- The loop stands at the position i layers above n, and has found the uncles below it held.
use Rattle.std.proofs.Common.{arith}
use Rattle.serve.proofs.Loops.{ancestor_none, ancestor_next, ancestor_cell, uncle_cell, uncles_none, uncles_more, uncles_fail, uncles_done}
use Rattle.serve.proofs.held_uncles.Goals as goal

pub loop-i-init : goal.loop-i-init
loop-i-init c = (ancestor_none c.args.n, uncles_none c.args.store.now c.args.n)

pub sibling-q-requires : goal.sibling-q-requires
sibling-q-requires c = let a = c.args in
    let l = c.loop-i in
    omega (arith, ancestor_cell l.i a.n l.x l.invariant.0)

pub held-there-requires : goal.held-there-requires
held-there-requires c = let a = c.args in
    let l = c.loop-i in
    omega (
      arith,
      c.requires,
      ancestor_cell l.i a.n l.x l.invariant.0,
      uncle_cell a.store.now a.n l.i l.x c.sibling-q.result c.requires l.invariant.0 c.sibling-q.ensures,
    )

pub returns-then-not-there : goal.returns-then-not-there
returns-then-not-there c = let a = c.args in
    let l = c.loop-i in
    uncles_fail a.store.now a.n l.i l.x c.sibling-q.result c.held-there.result l.invariant.0 c.sibling-q.ensures c.held-there.ensures a.u (omega arith) (c.if-not-there.true)

pub loop-i-preserved : goal.loop-i-preserved
loop-i-preserved c = let a = c.args in
    let l = c.loop-i in (
      ancestor_next l.i a.n l.x l.invariant.0,
      uncles_more a.store.now a.n l.i l.x c.sibling-q.result c.held-there.result l.invariant.0 c.sibling-q.ensures c.held-there.ensures l.invariant.1 (c.if-not-there.false),
    )

pub returns : goal.returns
returns c = let a = c.args in
    let l = c.loop-i in
    uncles_done a.store.now a.n a.u l.i (omega arith) (omega arith) l.invariant.1
