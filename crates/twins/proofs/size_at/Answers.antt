use Rattle.std.proofs.Common.{sym}
use Rattle.twins.proofs.Meeting.{size_none, size_token}
use Rattle.twins.proofs.size_at.Goals as goal

pub returns-then-p-eq0 : goal.returns-then-p-eq0
returns-then-p-eq0 c = size_none _ _ c.if-p-eq0.true

pub returns-in-None : goal.returns-in-None
returns-in-None c = size_token _ _ c.if-p-eq0.false _ (sym c.in-None.ensures)

pub returns-in-Some-Closed : goal.returns-in-Some-Closed
returns-in-Some-Closed c = size_token _ _ c.if-p-eq0.false _ (sym (rw c.in-Some-Closed.field-0-is at c.in-Some-Closed.ensures))

pub returns-in-Some-Opened : goal.returns-in-Some-Opened
returns-in-Some-Opened c = size_token _ _ c.if-p-eq0.false _ (sym (rw c.in-Some-Opened.field-0-is at c.in-Some-Opened.ensures))

pub returns-in-Some-Leaf : goal.returns-in-Some-Leaf
returns-in-Some-Leaf c = size_token _ _ c.if-p-eq0.false _ (sym (rw c.in-Some-Leaf.field-0-is at c.in-Some-Leaf.ensures))
