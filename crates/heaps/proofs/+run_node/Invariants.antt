-- By the layers left, k: past the run the value is raised, up to 2^e leaves are one heap, else a node is the pair of two.
-- Assumes nothing.
use Rattle.heaps.proofs.+run_node.Given as goal

abbrev pub decreases-run_node : goal.decreases-run_node
decreases-run_node l = l.k
