use Rattle.std.proofs.Common.{◌-◌, ◌≤◌, length}
use Rattle.bencode.specs.Front.{Front}
use Rattle.writer_meaning.specs.Content.{path_before}
use Rattle.writer_lists.specs.Walk.{Walk}
use Rattle.writer_lists.proofs.paths.path_before.Given as goal

abbrev pub invariant-loop-at : goal.invariant-loop-at
invariant-loop-at l = (l.at ≤ l.n) × Walk path_before l.one l.other l.at × Front l.one l.other l.n

abbrev pub decreases-loop-at : goal.decreases-loop-at
decreases-loop-at l = length l.one - l.at
