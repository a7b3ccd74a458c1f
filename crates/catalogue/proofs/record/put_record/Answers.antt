use Rattle.catalogue.proofs.Writing.{record_written}
use Rattle.catalogue.proofs.record.put_record.Goals as goal

pub returns : goal.returns
returns c = record_written _ _ _ _ _ c.requires.1 _ _ _ c.root_of-hash.ensures c.layer_of-layer.ensures.0 c.put_head.ensures _ c.put_elements.ensures
