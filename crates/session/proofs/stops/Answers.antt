-- A refusal as the last line.
-- Assumes nothing.
use Rattle.std.proofs.Common.{ap, ◌∙◌}
use Rattle.session.specs.declared.Phase.TheVariants.{Stopped}
use Rattle.session.specs.Session.{says_at}
use Rattle.numbers.specs.declared.Answer.{Answer}
use Rattle.session.proofs.stops.Goals as goal

pub returns : goal.returns
returns c = c.says.ensures ∙ ap (λ (a : Answer). says_at Stopped a) c.from.ensures
