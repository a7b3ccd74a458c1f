-- The phase decides; each arm follows its part of the session's step.
-- Assumes nothing.
use Rattle.std.proofs.Common.{arith, length-set, refl}
use Rattle.session.specs.Session.{outside, inside}
use Rattle.session.proofs.Steps.{opening_more, opening_last, body_more, body_last, goes_follows, by_phase, due_of}
use Rattle.session.proofs.take_byte.Goals as goal

pub bounds-room-at : goal.bounds-room-at
bounds-room-at c = let a = c.args in
    let d = due_of a.progress.at c.in-Opening.is c.requires.due in omega (arith, d, c.requires.room)

pub opening-requires : goal.opening-requires
opening-requires c = (simp length-set (omega (arith, c.requires.room)), c.requires.store)

pub returns-then-left-eq0 : goal.returns-then-left-eq0
returns-then-left-eq0 c = let a = c.args in
    let d = due_of a.progress.at c.in-Opening.is c.requires.due in
    by_phase _ a.store.now a.byte c.in-Opening.is
    (opening_last a.store.now a.room.now a.progress.at _ a.byte c.opening.result (omega (arith, d, c.requires.room)) _
    c.if-left-eq0.true d c.opening.ensures)

pub overflow_add-at : goal.overflow_add-at
overflow_add-at c = let a = c.args in
    let d = due_of a.progress.at c.in-Opening.is c.requires.due in omega (arith, d)

pub inside-requires : goal.inside-requires
inside-requires c = let a = c.args in
    (c.requires.room, due_of a.progress.at c.in-Inside.is c.requires.due)

pub bounds-room-at-in-Body : goal.bounds-room-at-in-Body
bounds-room-at-in-Body c = let a = c.args in
    let d = due_of a.progress.at c.in-Body.is c.requires.due in omega (arith, d, c.requires.room)

pub overflow_add-at-then-left-eq0-2 : goal.overflow_add-at-then-left-eq0-2
overflow_add-at-then-left-eq0-2 c = let a = c.args in
    let d = due_of a.progress.at c.in-Body.is c.requires.due in omega (arith, d)

pub returns-then-left-eq0-2 : goal.returns-then-left-eq0-2
returns-then-left-eq0-2 c = let a = c.args in
    let d = due_of a.progress.at c.in-Body.is c.requires.due in
    by_phase _ a.store.now a.byte c.in-Body.is
    (body_last a.store.now a.room.now a.progress.at _ a.byte c.goes-then-left-eq0-2.result (omega (arith, d, c.requires.room)) c.if-left-eq0-2.true d
    c.goes-then-left-eq0-2.ensures)

pub overflow_add-at-in-Body : goal.overflow_add-at-in-Body
overflow_add-at-in-Body c = let a = c.args in
    let d = due_of a.progress.at c.in-Body.is c.requires.due in omega (arith, d)

pub returns-in-Fresh : goal.returns-in-Fresh
returns-in-Fresh c = let a = c.args in
    by_phase _ a.store.now a.byte c.in-Fresh.is c.outside.ensures

pub returns-in-Open : goal.returns-in-Open
returns-in-Open c = let a = c.args in
    by_phase _ a.store.now a.byte c.in-Open.is c.outside-in-Open.ensures

pub returns-else-left-eq0 : goal.returns-else-left-eq0
returns-else-left-eq0 c = let a = c.args in
    let d = due_of a.progress.at c.in-Opening.is c.requires.due in
    by_phase _ a.store.now a.byte c.in-Opening.is
    (opening_more a.store.now a.room.now a.progress.at _ a.byte c.goes.result (omega (arith, d, c.requires.room)) c.if-left-eq0.false d
    c.goes.ensures)

pub returns-in-Inside : goal.returns-in-Inside
returns-in-Inside c = let a = c.args in
    by_phase _ a.store.now a.byte c.in-Inside.is c.inside.ensures

pub returns-else-left-eq0-2 : goal.returns-else-left-eq0-2
returns-else-left-eq0-2 c = let a = c.args in
    let d = due_of a.progress.at c.in-Body.is c.requires.due in
    by_phase _ a.store.now a.byte c.in-Body.is
    (body_more a.store.now a.room.now a.progress.at _ a.byte c.goes-in-Body.result (omega (arith, d, c.requires.room)) c.if-left-eq0-2.false d
    c.goes-in-Body.ensures)

pub returns-in-Stopped : goal.returns-in-Stopped
returns-in-Stopped c = let a = c.args in
    by_phase _ a.store.now a.byte c.in-Stopped.is
    (goes_follows _ c.goes-in-Stopped.result a.store.now a.room.now _ _ 0 c.goes-in-Stopped.ensures refl refl (omega arith))
