-- Nodes side by side by a loop, directories by recursion: how far the writing has come (PutAt).
use Rattle.std.proofs.Common.{length, ◌-◌}
use Rattle.catalogue.proofs.PutLaws.{PutAt}
use Rattle.catalogue.proofs.+put_directory.Given as goal

abbrev pub decreases-put_directory : goal.decreases-put_directory
decreases-put_directory l = l.spot.levels

abbrev pub invariant-loop-i : goal.invariant-loop-i
invariant-loop-i l = PutAt l.tree l.layers (record { list = l.list; at = l.at; levels = l.levels; to = l.initial.to }) l.initial.path l.path l.initial.out l.out l.below l.i l.to

abbrev pub decreases-loop-i : goal.decreases-loop-i
decreases-loop-i l = length l.tree - l.i
