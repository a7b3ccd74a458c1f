use Rattle.std.proofs.Common.{eq-eqb, ne_eqb, ap, ◌∙◌}
use Rattle.stream.specs.Steps.{end_answer, without_event}
use Rattle.stream.proofs.ended.Goals as goal

pub returns-then-mode-eq-STORING : goal.returns-then-mode-eq-STORING
unfolding end_answer
returns-then-mode-eq-STORING c = rw (eq-eqb c.args.mode 0 c.if-mode-eq-STORING.true, c.begin-next.ensures)

pub returns-then-mode-eq-SKIPPING_UNKNOWN : goal.returns-then-mode-eq-SKIPPING_UNKNOWN
unfolding end_answer
returns-then-mode-eq-SKIPPING_UNKNOWN c = rw (ne_eqb c.args.mode 0 c.if-mode-eq-STORING.false, eq-eqb c.args.mode 1 c.if-mode-eq-SKIPPING_UNKNOWN.true)
    (c.without_event.ensures ∙ ap (without_event 0 c.args.n) c.begin-next.ensures)

pub returns-then-mode-eq-SKIPPING_WRONG : goal.returns-then-mode-eq-SKIPPING_WRONG
unfolding end_answer
returns-then-mode-eq-SKIPPING_WRONG c = rw (ne_eqb c.args.mode 0 c.if-mode-eq-STORING.false, ne_eqb c.args.mode 1 c.if-mode-eq-SKIPPING_UNKNOWN.false, eq-eqb c.args.mode 2 c.if-mode-eq-SKIPPING_WRONG.true)
    (c.without_event-then-mode-eq-SKIPPING_WRONG.ensures ∙ ap (without_event 1 c.args.n) c.begin-next.ensures)

pub returns : goal.returns
unfolding end_answer
returns c = rw (ne_eqb c.args.mode 0 c.if-mode-eq-STORING.false, ne_eqb c.args.mode 1 c.if-mode-eq-SKIPPING_UNKNOWN.false, ne_eqb c.args.mode 2 c.if-mode-eq-SKIPPING_WRONG.false)
    (c.without_event-2.ensures ∙ ap (without_event 11 c.args.n) c.begin-next.ensures)
