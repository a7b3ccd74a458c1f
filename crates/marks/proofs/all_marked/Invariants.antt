use Rattle.std.proofs.Common.{true, ◌≡◌}
use Rattle.marks.specs.Marks.{all_marked}
use Rattle.marks.proofs.all_marked.Given as goal

abbrev pub invariant-loop-i : goal.invariant-loop-i
invariant-loop-i l = (all_marked l.store l.block l.i ≡ true)
