-- One round more by the sum that is read.
-- Assumes nothing.
use Rattle.std.proofs.Common.{◌∙◌}
use Rattle.rounds.specs.StageLaws.{rounds_by_more}
use Rattle.lanes.specs.Passes.{Stepping}
use Rattle.lanes.proofs.block.known_round.Goals as goal

pub returns : goal.returns
unfolding Stepping
returns c = λ z e. c.round.ensures ∙ rounds_by_more c.args.x.now z c.args.s c.args.i e
