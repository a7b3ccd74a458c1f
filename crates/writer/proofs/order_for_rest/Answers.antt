use Rattle.writer.specs.StepsLaws.{rest_plain, rest_sorted}
use Rattle.writer.proofs.order_for_rest.Goals as goal

pub returns-then-rest_size-eq2 : goal.returns-then-rest_size-eq2
returns-then-rest_size-eq2 c = rest_plain c.args.list.now
    c.args.text.now
    c.requires.0.form _ _
    c.requires.1 c.rest_size.ensures.0 c.if-rest_size-eq2.true

pub returns : goal.returns
returns c = rest_sorted c.args.list.now c.args.text.now
    c.requires.0.form _ _ c.requires.1
    c.sort.ensures.0
