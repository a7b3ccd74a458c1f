-- Top, left child, right child, by recursion on the height: the hash in the heap is the node over the hashes below it.
-- Assumes nothing.
use Rattle.settling.proofs.+look_heap.Given as goal

abbrev pub decreases-look_heap : goal.decreases-look_heap
decreases-look_heap l = l.height
