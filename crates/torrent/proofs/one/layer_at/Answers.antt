use Rattle.std.proofs.Common.{sym, ◌∙◌}
use Rattle.torrent.proofs.Answering.{layer_found}
use Rattle.torrent.proofs.one.layer_at.Goals as goal

pub returns-in_err-found : goal.returns-in_err-found
returns-in_err-found c = c.from_residual.ensures ∙ layer_found _ _ _ (sym c.in_err-found.ensures)

pub returns : goal.returns
returns c = c.read_string.ensures ∙ layer_found _ _ _ (sym c.in_ok-found.ensures)
