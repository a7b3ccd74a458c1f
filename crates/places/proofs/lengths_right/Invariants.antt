use Rattle.std.proofs.Common.{◌-◌, ◌≡◌}
use Rattle.places.specs.Places.{lengths_right}
use Rattle.places.proofs.lengths_right.Given as goal

abbrev pub invariant-loop-i : goal.invariant-loop-i
invariant-loop-i l = lengths_right l.list l.i (l.files - l.i) ≡ lengths_right l.list 0 l.files
