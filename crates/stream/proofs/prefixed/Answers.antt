use Rattle.std.proofs.Common.{eq-eqb, ne_eqb, lt-ltb, le-ltb, ap, ◌∙◌}
use Rattle.limits.specs.Limits.{longest_frame}
use Rattle.stream.specs.Reading.{prefixed, answer_of}
use Rattle.stream.specs.Steps.{without_event, prefixed_answer}
use Rattle.stream.proofs.prefixed.Goals as goal

pub returns-then-l-gt-LONGEST_FRAME : goal.returns-then-l-gt-LONGEST_FRAME
unfolding prefixed_answer prefixed answer_of
returns-then-l-gt-LONGEST_FRAME c = let l = c.args.l in
    rw (lt-ltb longest_frame l c.if-l-gt-LONGEST_FRAME.true) (c.without_event.ensures ∙ ap (without_event 30 1) c.standing-refused.ensures)

pub returns-then-l-eq0 : goal.returns-then-l-eq0
unfolding prefixed_answer prefixed answer_of
returns-then-l-eq0 c = let l = c.args.l in
    rw (le-ltb longest_frame l c.if-l-gt-LONGEST_FRAME.false, eq-eqb l 0 c.if-l-eq0.true, c.begin.ensures)

pub returns : goal.returns
unfolding prefixed_answer prefixed answer_of
returns c = let l = c.args.l in
    rw (le-ltb longest_frame l c.if-l-gt-LONGEST_FRAME.false, ne_eqb l 0 c.if-l-eq0.false)
    (c.without_event-2.ensures ∙ ap (without_event 0 1) c.standing-next.ensures)
