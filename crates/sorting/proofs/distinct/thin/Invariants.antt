use Rattle.std.proofs.Common.{length}
use Rattle.sorting.proofs.Thinning.{ThinnedAt}
use Rattle.sorting.proofs.distinct.thin.Given as goal

abbrev pub invariant-loop-i : goal.invariant-loop-i
invariant-loop-i l = ThinnedAt (length l.bytes) l.bytes l.initial.at l.at l.kept l.i
