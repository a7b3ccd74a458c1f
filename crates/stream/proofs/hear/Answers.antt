use Rattle.std.proofs.Common.{sym, ◌∙◌}
use Rattle.stream.specs.StepsLaws.{usable_going, hear_unusable, hear_refused, hear_run}
use Rattle.stream.proofs.hear.Goals as goal

pub returns-then-not-is_usable : goal.returns-then-not-is_usable
returns-then-not-is_usable c = let q = hear_unusable c.args.before c.args.room.now c.args.bytes.now (sym c.is_usable.ensures ∙ c.if-not-is_usable.true) in
    (c.without_event.ensures ∙ q.0, q.1)

pub returns-then-before-eq-REFUSING : goal.returns-then-before-eq-REFUSING
returns-then-before-eq-REFUSING c = let q = hear_refused c.args.before c.args.room.now c.args.bytes.now (sym c.is_usable.ensures ∙ c.if-not-is_usable.false) c.if-before-eq-REFUSING.true in
    (c.without_event-then-before-eq-REFUSING.ensures ∙ q.0, q.1)

pub run-requires : goal.run-requires
run-requires c = usable_going c.args.before _ (sym c.is_usable.ensures ∙ c.if-not-is_usable.false) c.if-before-eq-REFUSING.false

pub returns : goal.returns
returns c = hear_run c.args.before c.args.room.now c.args.bytes.now _ _ (sym c.is_usable.ensures ∙ c.if-not-is_usable.false)
    c.if-before-eq-REFUSING.false c.run.ensures
