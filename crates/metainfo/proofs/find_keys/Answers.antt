use Rattle.std.proofs.Common.{sym, ◌∙◌}
use Rattle.metainfo.proofs.Finding.{info_found}
use Rattle.metainfo.proofs.find_keys.Goals as goal

pub returns-in-None : goal.returns-in-None
returns-in-None c = sym (info_found _ _ (sym c.in-None.ensures))

pub returns-in-Some : goal.returns-in-Some
returns-in-Some c = c.dictionary_keys.ensures ∙ sym (info_found _ _ (sym c.in-Some.ensures))
