use Rattle.std.proofs.Common.{rules}
use Rattle.cells.specs.Cells.{held_at}
use Rattle.cells.proofs.held.Goals as goal

pub returns : goal.returns
unfolding held_at
returns c = search rules
