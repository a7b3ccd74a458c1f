use Rattle.std.proofs.Common.{◌∙◌}
use Rattle.torrent.specs.KeyStringLaws.{is_there_lem}
use Rattle.torrent.proofs.both.is_there.Goals as goal

pub returns : goal.returns
returns c = λ i key e info s. c.is_some.ensures ∙ is_there_lem i key _ e info s
