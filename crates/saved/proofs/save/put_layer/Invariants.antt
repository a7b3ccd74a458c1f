use Rattle.std.proofs.Common.{◌+◌, ◌*◌, length, ◌≡◌}
use Rattle.saved.specs.Form.{places_bytes}
use Rattle.octets.specs.Octets.{pasted}
use Rattle.saved.specs.Save.{layer_held}
use Rattle.saved.proofs.save.put_layer.Given as goal

abbrev pub invariant-loop-i : goal.invariant-loop-i
invariant-loop-i l = (l.here ≡ l.at + 41 * length (layer_held l.store l.height l.layer l.i)) × (l.out ≡ pasted l.initial.out l.at (places_bytes (layer_held l.store l.height l.layer l.i))) × (length l.out ≡ length l.initial.out)
