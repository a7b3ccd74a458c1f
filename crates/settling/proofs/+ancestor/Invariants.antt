-- By recursion on the layers: each is one halving.
use Rattle.settling.proofs.+ancestor.Given as goal

abbrev pub decreases-ancestor : goal.decreases-ancestor
decreases-ancestor l = l.layers
