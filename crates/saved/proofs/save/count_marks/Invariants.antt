use Rattle.std.proofs.Common.{◌≤◌, length, ◌≡◌}
use Rattle.saved.specs.Save.{marked_below}
use Rattle.saved.proofs.save.count_marks.Given as goal

abbrev pub invariant-loop-i : goal.invariant-loop-i
invariant-loop-i l = (l.m ≡ length (marked_below l.store l.i)) × (l.m ≤ l.i)
