use Rattle.std.proofs.Common.{◌+◌, ◌-◌, ◌≡◌}
use Rattle.octets.specs.Octets.{cut}
use Rattle.filetree.proofs.Reading.{allowed}
use Rattle.filetree.proofs.element.bytes_right.Given as goal

abbrev pub invariant-loop-i : goal.invariant-loop-i
invariant-loop-i l = allowed (cut l.bytes l.start l.size) ≡ allowed (cut l.bytes (l.start + l.i) (l.size - l.i))
