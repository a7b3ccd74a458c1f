use Rattle.std.proofs.Common.{List, ℕ, length, ◌≡◌}
use Rattle.leaves.specs.Leaves.{leaf_run}
use Rattle.octets.specs.Octets.{pasted}
use Rattle.tree.specs.Values.{leaf_of}
use Rattle.leaves.proofs.put_rest.Given as goal

abbrev pub invariant-loop-i : goal.invariant-loop-i
invariant-loop-i l = (length l.out ≡ length l.initial.out) × ((o : List ℕ) → length o ≡ length l.initial.out → l.initial.out ≡ pasted o l.at (leaf_run (leaf_of l.bytes) l.from) → l.out ≡ pasted o l.at (leaf_run (leaf_of l.bytes) l.i))
