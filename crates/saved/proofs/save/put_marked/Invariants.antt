use Rattle.std.proofs.Common.{◌+◌, ◌*◌, length, ◌≡◌}
use Rattle.saved.specs.Form.{marks_bytes}
use Rattle.octets.specs.Octets.{pasted}
use Rattle.saved.specs.Save.{marked_below}
use Rattle.saved.proofs.save.put_marked.Given as goal

abbrev pub invariant-loop-i : goal.invariant-loop-i
invariant-loop-i l = (l.here ≡ l.at + 5 * length (marked_below l.store l.i)) × (l.out ≡ pasted l.initial.out l.at (marks_bytes (marked_below l.store l.i))) × (length l.out ≡ length l.initial.out)
