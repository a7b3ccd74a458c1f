use Rattle.std.proofs.Common.{◌∙◌}
use Rattle.octets.proofs.Compared.{pointwise_same}
use Rattle.octets.proofs.same.Goals as goal

pub returns : goal.returns
returns g c = c.eq.ensures ∙ pointwise_same c.args.one c.args.other
