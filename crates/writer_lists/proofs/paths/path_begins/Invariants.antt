use Rattle.std.proofs.Common.{◌-◌, length}
use Rattle.writer_meaning.specs.Number.{begins}
use Rattle.writer_lists.specs.Walk.{Walk}
use Rattle.writer_lists.proofs.paths.path_begins.Given as goal

abbrev pub invariant-loop-at : goal.invariant-loop-at
invariant-loop-at l = Walk begins l.one l.other l.at

abbrev pub decreases-loop-at : goal.decreases-loop-at
decreases-loop-at l = length l.one - l.at
