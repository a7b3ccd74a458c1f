-- Each turn uses at least one byte of the piece and none past it.
-- Assumes nothing.
use Rattle.std.proofs.Common.{length, ◌-◌, ◌≤◌, ◌≡◌}
use Rattle.session.specs.Session.{Due}
use Rattle.replay.proofs.pass.Given as goal

abbrev pub invariant-loop-at : goal.invariant-loop-at
invariant-loop-at g l =
    (l.at ≤ length l.piece) × Due l.q.phase l.q.at × (length l.store ≡ length l.fn.store) × (length l.room ≡ length l.fn.room)

abbrev pub decreases-loop-at : goal.decreases-loop-at
decreases-loop-at g l = length l.piece - l.at
