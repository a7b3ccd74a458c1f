-- One more hash, one too many, the message's end, any other kind.
-- Assumes nothing.
use Rattle.std.proofs.Common.{arith, ◌-◌, ◌≤◌, length}
use Rattle.session.proofs.Steps.{inside_hash, inside_full, inside_end, inside_other}
use Rattle.session.proofs.inside.Goals as goal

pub returns-then-at-le-MAX_MESSAGE : goal.returns-then-at-le-MAX_MESSAGE
returns-then-at-le-MAX_MESSAGE c = let a = c.args in let l : a.at ≤ length a.room.now = omega (arith, c.requires) in inside_hash a.store.now a.room.now a.at a.kind c.goes.result l c.if-kind-eq3.true c.if-at-le-MAX_MESSAGE.true c.goes.ensures

pub returns-then-kind-eq3 : goal.returns-then-kind-eq3
returns-then-kind-eq3 c = let a = c.args in let l : a.at ≤ length a.room.now = omega (arith, c.requires) in inside_full a.store.now a.room.now a.at a.kind c.stops.result l c.if-kind-eq3.true c.if-at-le-MAX_MESSAGE.false c.stops.ensures

pub returns-then-kind-eq4 : goal.returns-then-kind-eq4
returns-then-kind-eq4 c = let a = c.args in let l : a.at ≤ length a.room.now = omega (arith, c.requires) in inside_end a.store.now a.room.now a.at a.kind c.says.result l _ c.take-answer.result (a.at - 0) (omega arith) c.if-kind-eq3.false c.if-kind-eq4.true c.take-answer.ensures.0 c.take-answer.ensures.1 c.says.ensures

pub returns : goal.returns
returns c = let a = c.args in let l : a.at ≤ length a.room.now = omega (arith, c.requires) in inside_other a.store.now a.room.now a.at a.kind c.stops-2.result l c.if-kind-eq3.false c.if-kind-eq4.false c.stops-2.ensures
