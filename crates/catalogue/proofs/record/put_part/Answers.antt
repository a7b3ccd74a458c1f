use Rattle.catalogue.proofs.Writing.{part_written}
use Rattle.catalogue.proofs.record.put_part.Goals as goal

pub returns : goal.returns
returns c = part_written _ _ _ _ _ _ c.requires c.put_number.ensures c.put_number-2.ensures
