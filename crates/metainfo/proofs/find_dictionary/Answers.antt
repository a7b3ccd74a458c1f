use Rattle.std.proofs.Common.{ap, sym, ◌∙◌}
use Rattle.metainfo.proofs.Finding.{dictionary_so, dictionary_not}
use Rattle.metainfo.specs.Metainfo.{dictionary_in}
use Rattle.metainfo.proofs.find_dictionary.Goals as goal

pub returns-then-is_dictionary : goal.returns-then-is_dictionary
returns-then-is_dictionary c = sym (dictionary_so _ _ _ _ (sym c.in_ok-found.ensures) (sym c.is_dictionary.ensures ∙ c.if-is_dictionary.true))

pub returns-in_err-found : goal.returns-in_err-found
returns-in_err-found c = c.from_residual.ensures ∙ sym (ap (dictionary_in c.args.torrent.now) (sym c.in_err-found.ensures))

pub returns : goal.returns
returns c = sym (dictionary_not _ _ _ _ (sym c.in_ok-found.ensures) (sym c.is_dictionary.ensures ∙ c.if-is_dictionary.false))
