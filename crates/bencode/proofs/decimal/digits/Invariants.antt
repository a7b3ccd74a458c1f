use Rattle.std.proofs.Common.{drop, ◌≡◌}
use Rattle.bencode.specs.Scalar.{read_digits}
use Rattle.bencode.proofs.decimal.digits.Given as goal

abbrev pub invariant-loop-i : goal.invariant-loop-i
invariant-loop-i l = read_digits l.stop l.initial.n l.initial.i (drop l.initial.i l.bytes) ≡ read_digits l.stop l.n l.i (drop l.i l.bytes)
