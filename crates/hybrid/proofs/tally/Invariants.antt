use Rattle.std.proofs.Common.{◌-◌, ◌≤◌, length}
use Rattle.bencode.specs.Grammar.{Items}
use Rattle.hybrid.specs.TallyLaws.{Tallying}
use Rattle.hybrid.specs.Tally.{Encodes, most_bytes}
use Rattle.hybrid.proofs.tally.Given as goal

abbrev pub invariant-loop-entry : goal.invariant-loop-entry
invariant-loop-entry l = (l.files ≤ l.i) × (l.total ≤ most_bytes) × ((vs : Items) → Encodes l.list vs → Tallying l.list l.plen l.i l.files l.total vs)

abbrev pub decreases-loop-entry : goal.decreases-loop-entry
decreases-loop-entry l = length l.list - l.i
