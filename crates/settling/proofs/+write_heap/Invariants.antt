-- Top, left child, right child, by recursion on the height: the hash in the heap is the node over the hashes below it.
-- Assumes nothing.
use Rattle.settling.proofs.+write_heap.Given as goal

abbrev pub decreases-write_heap : goal.decreases-write_heap
decreases-write_heap l = l.height
