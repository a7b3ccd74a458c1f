use Rattle.std.proofs.Common.{sym, ◌∙◌}
use Rattle.filetree.proofs.Reading.{token_file}
use Rattle.filetree.proofs.token.file_token.Goals as goal

pub returns-in_err-file : goal.returns-in_err-file
returns-in_err-file c = rw c.from_residual.ensures (sym (token_file _ _ _ _ _ (sym c.in_err-file.ensures)))

pub returns : goal.returns
returns c = c.past_file.ensures ∙ sym (token_file _ _ _ _ _ (sym c.in_ok-file.ensures))
