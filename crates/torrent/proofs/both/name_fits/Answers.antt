use Rattle.torrent.specs.KeyStringLaws.{or_other, or_none, or_string}
use Rattle.bencode.specs.Parts.{lookup}
use Rattle.halves.specs.V1Keys.{key_name}
use Rattle.torrent.proofs.both.name_fits.Goals as goal

pub returns-in-OtherType : goal.returns-in-OtherType
returns-in-OtherType c = λ info s. let w = (c.in-OtherType.ensures key_name c.requires) in or_other (lookup key_name info) (w.string info s).0 (w.string info s).1

pub returns-in-NoKey : goal.returns-in-NoKey
returns-in-NoKey c = λ info s. let w = (c.in-NoKey.ensures key_name c.requires) in or_none _ (w.string info s)

pub returns-in-Text : goal.returns-in-Text
returns-in-Text c = λ info s. let w = (c.in-Text.ensures key_name c.requires) in or_string (lookup key_name info) (w.string info s).0
