use Rattle.std.proofs.Common.{◌∙◌}
use Rattle.frames.specs.WriterLaws.{sendable_none, sendable_unknown, sendable_known}
use Rattle.frames.proofs.is_sendable.Goals as goal

pub returns-then-n-eq0 : goal.returns-then-n-eq0
returns-then-n-eq0 c = sendable_none c.args.message.now c.if-n-eq0.true

pub returns-in-Some : goal.returns-in-Some
returns-in-Some c = c.right_for.ensures ∙ sendable_known c.args.message.now c.wide-id.result _ c.if-n-eq0.false c.wide-id.ensures.0 c.in-Some.ensures

pub returns-in-None : goal.returns-in-None
returns-in-None c = sendable_unknown c.args.message.now c.wide-id.result c.if-n-eq0.false c.wide-id.ensures.0 c.in-None.ensures
