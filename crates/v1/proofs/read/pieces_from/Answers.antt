use Rattle.std.proofs.Common.{sym, ◌∙◌}
use Rattle.v1.specs.HalfLaws.{pieces_found}
use Rattle.v1.proofs.read.pieces_from.Goals as goal

pub returns-in_err-found : goal.returns-in_err-found
returns-in_err-found c = c.from_residual.ensures ∙ pieces_found _ _ _ (sym c.in_err-found.ensures)

pub returns : goal.returns
returns c = c.read_string.ensures ∙ pieces_found _ _ _ (sym c.in_ok-found.ensures)
