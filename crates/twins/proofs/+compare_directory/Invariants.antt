-- Nodes side by side by a loop, directories by recursion: how far the directory has come (Going), for whatever is known of what was ahead.
use Rattle.std.proofs.Common.{length, ◌≡◌, ◌-◌}
use Rattle.twins.specs.Walk.{Ahead}
use Rattle.twins.specs.WalkLaws.{Going}
use Rattle.twins.proofs.+compare_directory.Given as goal

abbrev pub decreases-compare_directory : goal.decreases-compare_directory
decreases-compare_directory l = l.levels

abbrev pub invariant-loop-i : goal.invariant-loop-i
invariant-loop-i l = (length l.room ≡ length l.initial.room)
    × ((w : Ahead l.tree l.roots l.count l.plen l.at l.levels l.initial.room l.before) → Going l.tree l.roots l.count l.plen l.at l.levels l.initial.room l.before w l.room l.below l.i l.layered)

abbrev pub decreases-loop-i : goal.decreases-loop-i
decreases-loop-i l = length l.tree - l.i
