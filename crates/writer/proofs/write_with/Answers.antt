use Rattle.std.proofs.Common.{ltb-true, ltb-false, sym, ◌∙◌}
use Rattle.writer.specs.StepsLaws.{answer_form, answer_many, part_ready, part_end}
use Rattle.writer.proofs.write_with.Goals as goal

pub returns-then-not-list_form : goal.returns-then-not-list_form
returns-then-not-list_form c = let a = answer_form c.args.list.now
    c.args.text.now
    c.args.plen
    c.args.name.now
    c.args.out.now
    (sym c.list_form.ensures ∙ c.if-not-list_form.true) in a

pub returns-then-too_many : goal.returns-then-too_many
returns-then-too_many c = let a = answer_many c.args.list.now
    c.args.text.now
    c.args.plen
    c.args.name.now
    c.args.out.now
    (sym c.list_form.ensures ∙ c.if-not-list_form.false)
    (ltb-true _ _ (sym c.too_many.ensures ∙ c.if-too_many.true)) in a

pub slice_bounds-write_in-end : goal.slice_bounds-write_in-end
slice_bounds-write_in-end c = part_end _ c.args.at.now
    (ltb-false _ _ (sym c.too_many.ensures ∙ c.if-too_many.false))
    c.requires.0

pub slice_bounds-write_in-end-2 : goal.slice_bounds-write_in-end-2
slice_bounds-write_in-end-2 c = part_end _ c.args.room.now
    (ltb-false _ _ (sym c.too_many.ensures ∙ c.if-too_many.false))
    c.requires.1

pub write_in-requires : goal.write_in-requires
write_in-requires c = part_ready c.args.list.now
    c.args.text.now
    c.args.at.now
    c.args.room.now
    (sym c.list_form.ensures ∙ c.if-not-list_form.false)
    (ltb-false _ _ (sym c.too_many.ensures ∙ c.if-too_many.false))
    c.requires.0
    c.requires.1
