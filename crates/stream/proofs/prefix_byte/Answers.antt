use Rattle.std.proofs.Common.{eq-eqb, ne_eqb, ap, ◌∙◌}
use Rattle.stream.specs.Reading.{prefix_byte, answer_of}
use Rattle.stream.specs.Steps.{without_event, prefixed_answer, prefix_answer}
use Rattle.stream.proofs.prefix_byte.Goals as goal

pub returns-then-before-eq3 : goal.returns-then-before-eq3
unfolding prefix_answer prefix_byte prefixed_answer
returns-then-before-eq3 c = rw (eq-eqb c.args.before.length_size 3 c.if-before-eq3.true) c.prefixed.ensures

pub returns : goal.returns
unfolding prefix_answer prefix_byte answer_of
returns c = rw (ne_eqb c.args.before.length_size 3 c.if-before-eq3.false) (c.without_event.ensures ∙ ap (without_event 0 1) c.standing-next.ensures)
