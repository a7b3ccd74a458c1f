use Rattle.std.proofs.Common.{◌/◌, ◌^◌, ◌≡◌}
use Rattle.tree.specs.Values.{pad_value}
use Rattle.history.specs.Growing.{open_above}
use Rattle.history.proofs.open_above.Given as goal

abbrev pub invariant-loop-l : goal.invariant-loop-l
invariant-loop-l l = (l.child ≡ open_above l.nodes l.initial.child l.i l.l) × (l.pad ≡ pad_value l.l) × (l.j ≡ l.i / 2 ^ l.l)
