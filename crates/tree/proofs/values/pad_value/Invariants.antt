use Rattle.std.proofs.Common.{◌≡◌}
use Rattle.tree.specs.Values.{pad_value}
use Rattle.tree.proofs.values.pad_value.Given as goal

abbrev pub invariant-loop-i : goal.invariant-loop-i
invariant-loop-i l = l.v ≡ pad_value l._i
