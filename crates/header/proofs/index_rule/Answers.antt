use Rattle.std.proofs.Common.{◌-◌, refl}
use Rattle.header.proofs.Rules.{index_by}
use Rattle.header.proofs.index_rule.Goals as goal

pub returns : goal.returns
returns c = let a = c.args in index_by a.header a.height (a.height - a.header.base) c.requires.2 refl
