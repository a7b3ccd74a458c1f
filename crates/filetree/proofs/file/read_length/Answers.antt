use Rattle.std.proofs.Common.{sym, ◌∙◌}
use Rattle.filetree.proofs.Reading.{length_of_lem}
use Rattle.filetree.proofs.file.read_length.Goals as goal

pub returns-in-None : goal.returns-in-None
returns-in-None c = sym (length_of_lem _ _ _ (sym c.in-None.ensures))

pub returns-in-Some : goal.returns-in-Some
returns-in-Some c = c.length_here.ensures ∙ sym (length_of_lem _ _ _ (sym c.in-Some.ensures))
