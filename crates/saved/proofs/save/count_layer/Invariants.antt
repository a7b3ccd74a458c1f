use Rattle.std.proofs.Common.{◌≤◌, length, ◌≡◌}
use Rattle.saved.specs.Save.{layer_held}
use Rattle.saved.proofs.save.count_layer.Given as goal

abbrev pub invariant-loop-i : goal.invariant-loop-i
invariant-loop-i l = (l.n ≡ length (layer_held l.store l.height l.layer l.i)) × (l.n ≤ l.i)
