use Rattle.std.proofs.Common.{sym, ◌∙◌}
use Rattle.metainfo.proofs.Finding.{tree_found, layers_found}
use Rattle.metainfo.proofs.dictionary_keys.Goals as goal

pub returns-in-None : goal.returns-in-None
returns-in-None c = sym (tree_found _ _ _ (sym c.in-None.ensures))

pub returns-in-None-find_dictionary : goal.returns-in-None-find_dictionary
returns-in-None-find_dictionary c = sym (layers_found _ _ _ _ _ (sym c.in-Some.ensures) (sym c.in-None-find_dictionary.ensures))

pub returns-in-Some-find_dictionary : goal.returns-in-Some-find_dictionary
returns-in-Some-find_dictionary c = c.info_keys.ensures ∙ sym (layers_found _ _ _ _ _ (sym c.in-Some.ensures) (sym c.in-Some-find_dictionary.ensures))
