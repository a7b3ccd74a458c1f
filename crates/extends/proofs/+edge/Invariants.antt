-- By the layers, l: each return is one of the cases of a position that is neither held nor padding.
use Rattle.extends.proofs.+edge.Given as goal

abbrev pub decreases-edge : goal.decreases-edge
decreases-edge l = l.layer
