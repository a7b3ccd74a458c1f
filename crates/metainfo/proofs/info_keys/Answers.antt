use Rattle.std.proofs.Common.{sym, ◌∙◌}
use Rattle.metainfo.proofs.Finding.{length_found, version_found}
use Rattle.metainfo.proofs.info_keys.Goals as goal

pub returns-in-None : goal.returns-in-None
returns-in-None c = sym (length_found _ _ _ _ _ (sym c.in-None.ensures))

pub returns-in-None-find_integer : goal.returns-in-None-find_integer
returns-in-None-find_integer c = sym (version_found _ _ _ _ _ _ _ _ (sym c.in-Some.ensures) (sym c.in-None-find_integer.ensures))

pub returns-in-Some-find_integer : goal.returns-in-Some-find_integer
returns-in-Some-find_integer c = c.right_keys.ensures ∙ sym (version_found _ _ _ _ _ _ _ _ (sym c.in-Some.ensures) (sym c.in-Some-find_integer.ensures))
