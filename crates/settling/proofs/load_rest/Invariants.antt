use Rattle.tree.specs.Values.{leaf_of}
use Rattle.settling.specs.Subtree.{Loaded}
use Rattle.settling.proofs.load_rest.Given as goal

abbrev pub invariant-loop-y : goal.invariant-loop-y
invariant-loop-y l = Loaded (leaf_of l.bytes) l.m l.from l.y l.heap
