use Rattle.std.proofs.Common.{◌-◌, length, ◌≡◌}
use Rattle.layers.proofs.Indexing.{IndexAt}
use Rattle.layers.proofs.index.Given as goal

abbrev pub invariant-loop-start : goal.invariant-loop-start
invariant-loop-start l = IndexAt l.layers l.keys l.most l.i l.n × (length l.keys ≡ length l.initial.keys)

abbrev pub decreases-loop-start : goal.decreases-loop-start
decreases-loop-start l = length l.layers - l.i
