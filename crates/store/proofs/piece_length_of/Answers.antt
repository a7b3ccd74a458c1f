-- The 4 bytes after the file's length are read as a number, which is the definition.
use Rattle.store.specs.Store.{piece_length}
use Rattle.store.proofs.piece_length_of.Goals as goal

pub returns : goal.returns
unfolding piece_length
returns c = c.number_at.ensures.0
