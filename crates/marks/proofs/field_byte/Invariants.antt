use Rattle.std.proofs.Common.{◌≡◌}
use Rattle.marks.specs.Marks.{field_bits}
use Rattle.marks.proofs.field_byte.Given as goal

abbrev pub invariant-loop-i : goal.invariant-loop-i
invariant-loop-i l = (l.x ≡ field_bits l.store l.piece l.i)
