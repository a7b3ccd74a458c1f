-- Nodes side by side by a loop, directories by recursion: how far counting has come (CountedAt).
use Rattle.std.proofs.Common.{length, ◌-◌}
use Rattle.filetree.specs.CountLaws.{CountedAt}
use Rattle.filetree.proofs.count.+count_directory.Given as goal

abbrev pub decreases-count_directory : goal.decreases-count_directory
decreases-count_directory l = l.levels

abbrev pub invariant-loop-i : goal.invariant-loop-i
invariant-loop-i l = CountedAt l.tree l.at l.levels l.initial.tally l.initial.roots l.roots l.below l.i l.tally

abbrev pub decreases-loop-i : goal.decreases-loop-i
decreases-loop-i l = length l.tree - l.i
