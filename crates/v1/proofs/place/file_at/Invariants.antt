use Rattle.std.proofs.Common.{◌-◌, ◌≤◌, length}
use Rattle.bencode.specs.Grammar.{Items}
use Rattle.hybrid.specs.Tally.{most_bytes}
use Rattle.v1.specs.Place.{Fitting, Walking}
use Rattle.v1.proofs.place.file_at.Given as goal

abbrev pub invariant-loop-i : goal.invariant-loop-i
invariant-loop-i l = (l.start ≤ most_bytes) × ((vs : Items) → Fitting l.list vs → Walking l.list l.file l.i l.left l.start vs)

abbrev pub decreases-loop-i : goal.decreases-loop-i
decreases-loop-i l = length l.list - l.i
