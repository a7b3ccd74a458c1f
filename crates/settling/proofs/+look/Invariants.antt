-- Up to nine layers in one heap; above, left child, right child and top, by recursion on the height.
-- Assumes nothing.
use Rattle.settling.proofs.+look.Given as goal

abbrev pub decreases-look : goal.decreases-look
decreases-look g l = l.height
