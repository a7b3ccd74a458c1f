use Rattle.std.proofs.Common.{sym, ◌∙◌}
use Rattle.about.proofs.AboutLaws.{name_found}
use Rattle.about.proofs.name_from.Goals as goal

pub returns-in_err-found : goal.returns-in_err-found
returns-in_err-found c = c.from_residual.ensures ∙ name_found _ _ _ (sym c.in_err-found.ensures)

pub returns : goal.returns
returns c = c.read_string.ensures ∙ name_found _ _ _ (sym c.in_ok-found.ensures)
