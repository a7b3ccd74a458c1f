use Rattle.std.proofs.Common.{◌≤◌}
use Rattle.lanes.specs.Hashes.{Heap}
use Rattle.lanes.proofs.runs.fill_heap.Given as goal

abbrev pub invariant-loop-q : goal.invariant-loop-q
invariant-loop-q l = (1 ≤ l.q) × (l.q ≤ l.leaves) × Heap l.q l.leaves l.initial.heap l.heap

abbrev pub decreases-loop-q : goal.decreases-loop-q
decreases-loop-q l = l.q

abbrev pub invariant-loop-n : goal.invariant-loop-n
invariant-loop-n l = (1 ≤ l.n) × (l.n ≤ l.leaves) × Heap l.n l.leaves l.initial.heap l.heap
