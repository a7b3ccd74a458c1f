use Rattle.std.proofs.Common.{sym, ◌∙◌}
use Rattle.filetree.proofs.Reading.{root_of_lem}
use Rattle.filetree.proofs.file.read_root.Goals as goal

pub returns-in-None : goal.returns-in-None
returns-in-None c = sym (root_of_lem _ _ _ (sym c.in-None.ensures))

pub returns-in-Some : goal.returns-in-Some
returns-in-Some c = c.root_here.ensures ∙ sym (root_of_lem _ _ _ (sym c.in-Some.ensures))
