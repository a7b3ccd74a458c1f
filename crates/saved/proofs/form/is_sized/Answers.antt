use Rattle.saved.proofs.Answers.{sized_small, sized_kind, sized_short, sized_exact}
use Rattle.saved.proofs.form.is_sized.Goals as goal

pub returns-then-size-lt50 : goal.returns-then-size-lt50
returns-then-size-lt50 c = sized_small _ c.if-size-lt50.true

pub returns-then-bytes-size-ne4 : goal.returns-then-bytes-size-ne4
returns-then-bytes-size-ne4 c = sized_kind _ c.if-size-lt50.false c.if-bytes-size-ne4.true

pub returns-then-size-others : goal.returns-then-size-others
returns-then-size-others c = sized_short _ _ c.mark_count-m.ensures.0 c.if-size-others.true

pub returns : goal.returns
returns c = sized_exact _ _ c.if-size-lt50.false c.if-bytes-size-ne4.false c.mark_count-m.ensures.0 c.if-size-others.false
