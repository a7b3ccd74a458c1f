use Rattle.std.proofs.Common.{◌≡◌}
use Rattle.marks.specs.Marks.{field_bytes}
use Rattle.std.proofs.Math.Seq.{paste}
use Rattle.marks.proofs.write_field.Given as goal

abbrev pub invariant-loop-i : goal.invariant-loop-i
invariant-loop-i l = (l.out ≡ paste l.initial.out 0 (field_bytes l.store l.n) l.i)
