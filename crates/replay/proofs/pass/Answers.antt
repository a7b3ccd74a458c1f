-- What a turn uses of the piece is session's law.
-- Assumes nothing.
use Rattle.std.proofs.Common.{rules}
use Rattle.session.specs.SessionLaws.{rest_used}
use Rattle.replay.proofs.pass.Goals as goal

-- src/main.rt:41:9
pub overflow_add-at : goal.overflow_add-at
overflow_add-at g c = let u = rest_used _ c.args.piece.now c.loop-at.at c.take_piece-part.result.used c.loop-at-test.true c.take_piece-part.ensures.used in search rules

-- src/main.rt:35:5
pub loop-at-smaller : goal.loop-at-smaller
loop-at-smaller g c = let u = rest_used _ c.args.piece.now c.loop-at.at c.take_piece-part.result.used c.loop-at-test.true c.take_piece-part.ensures.used in search rules

-- src/main.rt:35:5
pub loop-at-preserved : goal.loop-at-preserved
loop-at-preserved g c = let u = rest_used _ c.args.piece.now c.loop-at.at c.take_piece-part.result.used c.loop-at-test.true c.take_piece-part.ensures.used in (u.0, c.take_piece-part.ensures.due, search rules, search rules)
