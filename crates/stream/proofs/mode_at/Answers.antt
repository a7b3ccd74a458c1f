use Rattle.stream.specs.ReadingLaws.{mode_first, mode_later}
use Rattle.stream.proofs.mode_at.Goals as goal

pub returns-then-before-eq0 : goal.returns-then-before-eq0
returns-then-before-eq0 c = mode_first c.args.before c.args.n c.args.b _ _ _ c.if-before-eq0.true c.wide-id.ensures.0
    c.mode_of-m.ensures c.fitting.ensures

pub returns : goal.returns
returns c = mode_later c.args.before c.args.n c.args.b _ c.if-before-eq0.false c.fitting-2.ensures
