use Rattle.std.proofs.Common.{◌*◌, length, ◌≡◌}
use Rattle.leaves.specs.Leaves.{leaf_run}
use Rattle.octets.specs.Octets.{pasted}
use Rattle.tree.specs.Values.{leaf_of}
use Rattle.leaves.proofs.put_eights.Given as goal

abbrev pub invariant-loop-e : goal.invariant-loop-e
invariant-loop-e l = (length l.out ≡ length l.initial.out) × (l.out ≡ pasted l.initial.out l.at (leaf_run (leaf_of l.bytes) (8 * l.e)))
