use Rattle.std.proofs.Common.{◌-◌, length}
use Rattle.writer_lists.specs.ListsLaws.{Left}
use Rattle.writer_lists.proofs.elements.elements_fit.Given as goal

abbrev pub invariant-loop-at : goal.invariant-loop-at
invariant-loop-at l = Left l.path l.at

abbrev pub decreases-loop-at : goal.decreases-loop-at
decreases-loop-at l = length l.path - l.at
