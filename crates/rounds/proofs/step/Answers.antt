use Rattle.std.proofs.Common.{◌∙◌}
use Rattle.rounds.specs.StageLaws.{rounds_by_more}
use Rattle.rounds.proofs.step.Goals as goal

pub returns : goal.returns
returns c = λ z e. c.round.ensures ∙ rounds_by_more c.args.x.now z c.args.s c.args.i e
