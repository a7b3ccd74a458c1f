-- The 8 bytes from the start are read as a number, which is the definition.
use Rattle.store.specs.Store.{file_length}
use Rattle.store.proofs.file_length.Goals as goal

pub returns : goal.returns
unfolding file_length
returns c = c.number_at.ensures.0
