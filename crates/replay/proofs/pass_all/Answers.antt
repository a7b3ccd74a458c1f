-- Where a session begins nothing is gathered, by session's law.
-- Assumes nothing.
use Rattle.session.specs.SessionLaws.{started_due}
use Rattle.std.proofs.Common.{refl}
use Rattle.replay.proofs.pass_all.Goals as goal

-- src/main.rt:57:5
pub loop-init : goal.loop-init
loop-init g c = (started_due c.start-q.result c.start-q.ensures, refl, refl)
