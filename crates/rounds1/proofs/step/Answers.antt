use Rattle.std.proofs.Common.{◌∙◌}
use Rattle.rounds1.specs.StageLaws.{round_by}
use Rattle.rounds1.proofs.step.Goals as goal

pub returns : goal.returns
returns g c = λ z e. c.turn.ensures ∙ round_by c.args.w.now z c.args.s (λ x y b r. g.F.Fn.post c.args.function.now (x, (y, (b, tt))) r) c.args.i _ c.args.k c.requires.by.1 e c.function.ensures
