-- Each return is one case of the definition.
use Rattle.std.proofs.Common.{sym}
use Rattle.extends.proofs.Ways.{pair_by}
use Rattle.extends.proofs.ExtendsLaws.{both_left, both_right}
use Rattle.extends.proofs.both.Goals as goal

pub returns-then-l-ne0 : goal.returns-then-l-ne0
returns-then-l-ne0 c = sym (both_left _ _ c.if-l-ne0.true)

pub returns-then-r-ne0 : goal.returns-then-r-ne0
returns-then-r-ne0 c = sym (both_right _ _ c.if-l-ne0.false c.if-r-ne0.true)

pub returns : goal.returns
returns c = pair_by _ _ _ c.if-l-ne0.false c.if-r-ne0.false c.pair-hash.ensures
