use Rattle.std.proofs.Common.{◌-◌, length}
use Rattle.writer_meaning.specs.Written.{opened}
use Rattle.writer_output.specs.PathLaws.{Walking}
use Rattle.writer_output.proofs.path.put_opened.Given as goal

abbrev pub invariant-loop-i : goal.invariant-loop-i
invariant-loop-i l = Walking opened l.initial.out l.at l.path l.from l.out l.to l.i

abbrev pub decreases-loop-i : goal.decreases-loop-i
decreases-loop-i l = length l.path - l.i
