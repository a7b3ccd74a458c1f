use Rattle.std.proofs.Common.{◌-◌, length}
use Rattle.writer_output.specs.PathLaws.{Along}
use Rattle.writer_output.proofs.path.shared_end.Given as goal

abbrev pub invariant-loop-at : goal.invariant-loop-at
invariant-loop-at l = Along l.one l.other l.at

abbrev pub decreases-loop-at : goal.decreases-loop-at
decreases-loop-at l = length l.one - l.at
