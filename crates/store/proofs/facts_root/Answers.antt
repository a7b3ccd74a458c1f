-- The 32 bytes after the piece length are copied, which is the definition.
use Rattle.store.specs.Store.{facts_root}
use Rattle.store.proofs.facts_root.Goals as goal

pub returns : goal.returns
unfolding facts_root
returns c = c.hash_at.ensures
