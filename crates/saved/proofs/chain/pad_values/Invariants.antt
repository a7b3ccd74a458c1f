use Rattle.std.proofs.Common.{◌≡◌}
use Rattle.lanes.specs.Hashes.{Filled}
use Rattle.tree.specs.Values.{pad_value}
use Rattle.saved.proofs.chain.pad_values.Given as goal

abbrev pub invariant-loop-l : goal.invariant-loop-l
invariant-loop-l l = (l.v ≡ pad_value l.l) × Filled pad_value 672 l.l l.pads
