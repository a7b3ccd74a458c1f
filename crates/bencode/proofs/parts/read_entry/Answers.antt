-- A key, then what `entry_to` says of the walk over the value.
use Rattle.std.proofs.Common.{sym, ◌∙◌}
use Rattle.bencode.proofs.Finding.{entry_no_key, entry_key}
use Rattle.bencode.proofs.parts.read_entry.Goals as goal

pub returns-in_err-key : goal.returns-in_err-key
returns-in_err-key c = c.from_residual.ensures ∙ sym (entry_no_key _ _ (sym c.in_err-key.ensures))

pub returns-in-Ok : goal.returns-in-Ok
returns-in-Ok c = sym (entry_key _ _ _ _ _ (sym c.in_ok-key.ensures) (sym c.in-Ok.ensures))

pub returns-in-Err : goal.returns-in-Err
returns-in-Err c = sym (entry_key _ _ _ _ _ (sym c.in_ok-key.ensures) (sym c.in-Err.ensures))
