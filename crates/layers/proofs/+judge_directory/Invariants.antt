-- Nodes side by side by a loop, directories by recursion: how far judging has come (JudgedAt).
use Rattle.std.proofs.Common.{length, ◌-◌}
use Rattle.layers.specs.Layers.{number_if}
use Rattle.layers.specs.JudgeLaws.{JudgedAt}
use Rattle.layers.proofs.+judge_directory.Given as goal

abbrev pub decreases-judge_directory : goal.decreases-judge_directory
decreases-judge_directory l = l.levels

abbrev pub invariant-loop-i : goal.invariant-loop-i
invariant-loop-i l = JudgedAt l.tree l.at l.levels l.layers l.plen (number_if l.initial.worst) l.below l.i (number_if l.worst)

abbrev pub decreases-loop-i : goal.decreases-loop-i
decreases-loop-i l = length l.tree - l.i
