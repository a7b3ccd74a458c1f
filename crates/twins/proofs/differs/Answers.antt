use Rattle.twins.proofs.Meeting.{differs_none, differs_some}
use Rattle.twins.proofs.differs.Goals as goal

pub returns-then-known-eq0 : goal.returns-then-known-eq0
returns-then-known-eq0 c = differs_none _ _ c.if-known-eq0.true

pub returns : goal.returns
returns c = differs_some _ _ c.if-known-eq0.false
