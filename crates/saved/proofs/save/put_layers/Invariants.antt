use Rattle.std.proofs.Common.{◌+◌, ◌*◌, length, ◌≡◌}
use Rattle.saved.specs.Form.{places_bytes}
use Rattle.octets.specs.Octets.{pasted}
use Rattle.saved.specs.Save.{held_below}
use Rattle.saved.proofs.save.put_layers.Given as goal

abbrev pub invariant-loop-l : goal.invariant-loop-l
invariant-loop-l l = (l.here ≡ l.at + 41 * length (held_below l.store l.height l.l)) × (l.out ≡ pasted l.initial.out l.at (places_bytes (held_below l.store l.height l.l))) × (length l.out ≡ length l.initial.out)
