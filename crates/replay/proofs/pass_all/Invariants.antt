-- Assumes nothing.
use Rattle.std.proofs.Common.{length, ◌≡◌}
use Rattle.session.specs.Session.{Due}
use Rattle.replay.proofs.pass_all.Given as goal

abbrev pub invariant-loop : goal.invariant-loop
invariant-loop g l = Due l.q.phase l.q.at × (length l.store ≡ length l.fn.store) × (length l.room ≡ length l.fn.room)
