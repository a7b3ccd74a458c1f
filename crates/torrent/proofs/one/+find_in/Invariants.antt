-- Nodes side by side by a loop, directories by recursion: how far the search has come (FindAt).
use Rattle.std.proofs.Common.{length, ◌-◌}
use Rattle.torrent.specs.FindLaws.{FindAt}
use Rattle.torrent.proofs.one.+find_in.Given as goal

abbrev pub decreases-find_in : goal.decreases-find_in
decreases-find_in l = l.levels

abbrev pub invariant-loop-i : goal.invariant-loop-i
invariant-loop-i l = FindAt l.tree l.at l.levels l.file l.initial.path l.path l.below l.i l.left

abbrev pub decreases-loop-i : goal.decreases-loop-i
decreases-loop-i l = length l.tree - l.i
