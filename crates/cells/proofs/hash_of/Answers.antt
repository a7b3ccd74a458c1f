use Rattle.std.proofs.Common.{rules}
use Rattle.cells.specs.Cells.{hash_at}
use Rattle.cells.proofs.hash_of.Goals as goal

pub returns : goal.returns
unfolding hash_at
returns c = search rules
