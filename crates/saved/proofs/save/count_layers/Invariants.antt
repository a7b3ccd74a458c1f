use Rattle.std.proofs.Common.{◌*◌, ◌^◌, ◌≤◌, length, ◌≡◌}
use Rattle.limits.specs.Limits.{tallest_tree}
use Rattle.saved.specs.Save.{held_below}
use Rattle.saved.proofs.save.count_layers.Given as goal

abbrev pub invariant-loop-l : goal.invariant-loop-l
invariant-loop-l l = (l.n ≡ length (held_below l.store l.height l.l)) × (l.n ≤ l.l * 2 ^ tallest_tree)
