-- An opening, a header once a store is open, any other kind.
-- Assumes nothing.
use Rattle.std.proofs.Common.{arith}
use Rattle.session.proofs.Steps.{outside_opening, outside_header, outside_other, outside_fresh}
use Rattle.session.proofs.outside.Goals as goal

pub returns-then-kind-eq1 : goal.returns-then-kind-eq1
returns-then-kind-eq1 c = let a = c.args in outside_opening a.opened a.store.now a.room.now a.kind c.goes.result c.if-kind-eq1.true c.goes.ensures

pub returns-then-kind-eq2 : goal.returns-then-kind-eq2
returns-then-kind-eq2 c = let a = c.args in outside_header a.opened a.store.now a.room.now a.kind c.goes-then-kind-eq2.result c.if-kind-eq1.false c.if-opened.true c.if-kind-eq2.true (omega (arith, c.requires)) c.goes-then-kind-eq2.ensures

pub returns-then-opened : goal.returns-then-opened
returns-then-opened c = let a = c.args in outside_other a.opened a.store.now a.room.now a.kind c.stops.result c.if-kind-eq1.false c.if-opened.true c.if-kind-eq2.false c.stops.ensures

pub returns : goal.returns
returns c = let a = c.args in outside_fresh a.opened a.store.now a.room.now a.kind c.stops-2.result c.if-kind-eq1.false c.if-opened.false c.stops-2.ensures
