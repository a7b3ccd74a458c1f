use Rattle.std.proofs.Common.{sym}
use Rattle.torrent.specs.KeyStringLaws.{string_missing, string_other, string_text}
use Rattle.torrent.proofs.both.string_of.Goals as goal

pub returns-in-None : goal.returns-in-None
returns-in-None c = λ key e. string_missing _ key _ e c.in-None.is

pub returns-in-None-read_string : goal.returns-in-None-read_string
returns-in-None-read_string c = λ key e. string_other _ key _ e _ _ c.in-Some.is (sym c.in-None-read_string.ensures)

pub returns-in-Some-read_string : goal.returns-in-Some-read_string
returns-in-Some-read_string c = λ key e. string_text _ key _ e _ _ c.in-Some.is _ _ (sym c.in-Some-read_string.ensures)
