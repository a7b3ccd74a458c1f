use Rattle.twins.proofs.Meeting.{one_long, one_short, one_known}
use Rattle.twins.proofs.one_more.Goals as goal

pub returns-then-has_layer : goal.returns-then-has_layer
returns-then-has_layer c = one_long _ _ _ _ c.if-known-eq0.true _ c.has_layer.ensures c.if-has_layer.true

pub returns-then-known-eq0 : goal.returns-then-known-eq0
returns-then-known-eq0 c = one_short _ _ _ _ c.if-known-eq0.true _ c.has_layer.ensures c.if-has_layer.false

pub returns : goal.returns
returns c = one_known _ _ _ _ c.if-known-eq0.false
