-- Each return is one case of the definition.
use Rattle.extends.proofs.Ways.{reaches_6, reaches_not, reaches_0, reaches_7}
use Rattle.extends.proofs.reaches.Goals as goal

pub returns-then-x-ne0 : goal.returns-then-x-ne0
returns-then-x-ne0 c = reaches_6 _ _ _ c.if-x-ne0.true

pub returns-then-not-right : goal.returns-then-not-right
returns-then-not-right c = reaches_not _ _ _ c.if-x-ne0.false (c.if-not-right.true)

pub returns-then-alike : goal.returns-then-alike
returns-then-alike c = reaches_0 _ _ _ c.if-x-ne0.false (c.if-not-right.false) _ c.same-alike.ensures c.if-alike.true

pub returns : goal.returns
returns c = reaches_7 _ _ _ c.if-x-ne0.false (c.if-not-right.false) _ c.same-alike.ensures c.if-alike.false
