use Rattle.std.proofs.Common.{◌∙◌}
use Rattle.writer_order.proofs.number.content_number.Goals as goal

pub returns-in-Ok : goal.returns-in-Ok
returns-in-Ok c = λ name e. c.in-Ok.ensures name c.args.roots e c.requires.2

pub returns-in-Err : goal.returns-in-Err
returns-in-Err c = λ name e. c.from.ensures ∙ c.in-Err.ensures name c.args.roots e c.requires.2
