use Rattle.std.proofs.Common.{arith, ◌≡◌, refl, ap, sym, ◌∙◌}
use Rattle.writer_lists.specs.Lists.{form_up_to, record_count}
use Rattle.writer_lists.specs.ListsLaws.{form_none, form_all, form_next, form_wrong}
use Rattle.writer_lists.proofs.form.list_form.Goals as goal

pub returns-then-list-ne0 : goal.returns-then-list-ne0
returns-then-list-ne0 c = sym (form_none c.args.list.now c.args.text.now c.if-list-ne0.true)

pub loop-i-init : goal.loop-i-init
unfolding form_up_to
loop-i-init c = (refl)

pub returns-then-not-form_at : goal.returns-then-not-form_at
returns-then-not-form_at c = sym (form_all c.args.list.now
    c.args.text.now c.if-list-ne0.false ∙
    form_wrong c.args.list.now
    c.args.text.now c.loop-i.i _
    c.loop-i-test.true (sym c.form_at.ensures ∙ c.if-not-form_at.true))

pub loop-i-preserved : goal.loop-i-preserved
loop-i-preserved c = (form_next c.args.list.now
    c.args.text.now c.loop-i.i
    c.loop-i.invariant (sym c.form_at.ensures ∙ c.if-not-form_at.false)
    )

pub returns : goal.returns
returns c = let o : c.loop-i.i ≡ record_count c.args.list.now = omega arith in sym
    (form_all c.args.list.now c.args.text.now
    c.if-list-ne0.false ∙ ap (form_up_to c.args.list.now
    c.args.text.now) (sym o) ∙ c.loop-i.invariant)
