-- Each return is one case of the definition.
use Rattle.extends.proofs.Ways.{over_none, over_some}
use Rattle.extends.proofs.over_size.Goals as goal

pub returns-then-length-eq0 : goal.returns-then-length-eq0
returns-then-length-eq0 c = over_none c.args.most c.args.length c.if-length-eq0.true

pub returns : goal.returns
returns c = over_some c.args.most c.args.length _ c.if-length-eq0.false c.block_size.ensures
