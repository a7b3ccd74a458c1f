-- Up to nine layers in one heap; above, left child, right child and top, by recursion on the height.
-- Assumes nothing.
use Rattle.settling.proofs.+write_parts.Given as goal

abbrev pub decreases-write_parts : goal.decreases-write_parts
decreases-write_parts l = l.height
