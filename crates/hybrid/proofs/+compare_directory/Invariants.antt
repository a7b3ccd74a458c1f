-- Nodes side by side by a loop, directories by recursion: how far the walk has come beside `files` (CompareAt).
use Rattle.std.proofs.Common.{length, ◌-◌}
use Rattle.hybrid.specs.CompareLaws.{CompareAt}
use Rattle.hybrid.proofs.+compare_directory.Given as goal

abbrev pub decreases-compare_directory : goal.decreases-compare_directory
decreases-compare_directory l = l.levels

abbrev pub invariant-loop-i : goal.invariant-loop-i
invariant-loop-i l = CompareAt l.tree l.list l.at l.levels l.cursor l.initial.path l.path l.below l.i l.behind

abbrev pub decreases-loop-i : goal.decreases-loop-i
decreases-loop-i l = length l.tree - l.i
