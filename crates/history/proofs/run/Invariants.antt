use Rattle.std.proofs.Common.{◌+◌, ◌-◌, ◌≤◌, ◌%◌, length, drop, ◌≡◌}
use Rattle.tree.specs.Geometry.{block_length}
use Rattle.history.specs.Growing.{grown_by, noted_by}
use Rattle.history.proofs.run.Given as goal

abbrev pub invariant-loop-at : goal.invariant-loop-at
invariant-loop-at l = (l.at ≤ length l.burst) × (l.t.piece_length ≡ l.initial.t.piece_length) × (l.t.length ≡ l.initial.t.length + l.at) × (l.t.block.total ≡ l.t.length % block_length) × (l.t.block.tail_size ≡ l.t.block.total % 64) × (length l.layer ≡ length l.initial.layer) × (grown_by l.t (drop l.at l.burst) ≡ grown_by l.initial.t l.burst) × (noted_by l.t l.layer (drop l.at l.burst) ≡ noted_by l.initial.t l.initial.layer l.burst)

abbrev pub decreases-loop-at : goal.decreases-loop-at
decreases-loop-at l = length l.burst - l.at
