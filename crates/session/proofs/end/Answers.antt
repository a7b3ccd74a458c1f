-- The phase decides.
-- Assumes nothing.
use Rattle.std.proofs.Common.{ap, sym, ◌∙◌, Some}
use Rattle.session.specs.Session.{ending}
use Rattle.session.proofs.end.Goals as goal

pub returns-in-Opening : goal.returns-in-Opening
returns-in-Opening c = ap Some c.from-cut.ensures ∙ sym (ap ending c.in-Opening.is)

pub returns-in-Inside : goal.returns-in-Inside
returns-in-Inside c = ap Some c.from-cut.ensures ∙ sym (ap ending c.in-Inside.is)

pub returns-in-Body : goal.returns-in-Body
returns-in-Body c = ap Some c.from-cut.ensures ∙ sym (ap ending c.in-Body.is)
