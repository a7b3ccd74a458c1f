-- One layer up for each uncle, by recursion on the layers left: the answer of the rest and the two tests of this layer are what `climbed_up` puts together.
use Rattle.settling.proofs.+climb.Given as goal

abbrev pub decreases-climb : goal.decreases-climb
decreases-climb l = l.count
