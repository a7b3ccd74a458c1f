use Rattle.std.proofs.Common.{sym}
use Rattle.filetree.proofs.Reading.{file_no_length, file_empty, file_full}
use Rattle.filetree.proofs.file.read_file.Goals as goal

pub returns-in_err-length : goal.returns-in_err-length
returns-in_err-length c = rw c.from_residual.ensures (sym (file_no_length _ _ (sym c.in_err-length.ensures)))

pub returns-in-None : goal.returns-in-None
returns-in-None c = sym (file_empty _ _ _ (sym c.in_ok-length.ensures) c.if-length-eq0.true _ (sym c.in-None.ensures))

pub returns-in-Some : goal.returns-in-Some
returns-in-Some c = sym (file_empty _ _ _ (sym c.in_ok-length.ensures) c.if-length-eq0.true _ (sym c.in-Some.ensures))

pub returns-in_err-root : goal.returns-in_err-root
returns-in_err-root c = rw c.from_residual-in_err-root.ensures (sym (file_full _ _ _ (sym c.in_ok-length.ensures) c.if-length-eq0.false _ (sym c.in_err-root.ensures)))

pub returns : goal.returns
returns c = sym (file_full _ _ _ (sym c.in_ok-length.ensures) c.if-length-eq0.false _ (sym c.in_ok-root.ensures))
