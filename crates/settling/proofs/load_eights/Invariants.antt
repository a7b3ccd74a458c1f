use Rattle.std.proofs.Common.{◌*◌}
use Rattle.tree.specs.Values.{leaf_of}
use Rattle.settling.specs.Subtree.{Loaded}
use Rattle.settling.proofs.load_eights.Given as goal

abbrev pub invariant-loop-i : goal.invariant-loop-i
invariant-loop-i l = Loaded (leaf_of l.bytes) l.m l.from (8 * l.i) l.heap
