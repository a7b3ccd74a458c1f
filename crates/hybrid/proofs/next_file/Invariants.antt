use Rattle.std.proofs.Common.{◌-◌, length}
use Rattle.hybrid.specs.AheadLaws.{Seeking}
use Rattle.hybrid.proofs.next_file.Given as goal

abbrev pub invariant-loop-entry : goal.invariant-loop-entry
invariant-loop-entry l = Seeking l.list l.at l.i

abbrev pub decreases-loop-entry : goal.decreases-loop-entry
decreases-loop-entry l = length l.list - l.i
