use Rattle.std.proofs.Common.{◌+◌, sym, ◌∙◌}
use Rattle.writer_lists.specs.ListsLaws.{form_long, form_layer, form_path, form_slice, slice_end}
use Rattle.writer_lists.proofs.form.form_at.Goals as goal

pub returns-then-n-ge-LENGTHS : goal.returns-then-n-ge-LENGTHS
returns-then-n-ge-LENGTHS c = sym (form_long c.args.list.now c.args.text.now
    c.args.at (rw c.number_at-n.ensures.0 at c.if-n-ge-LENGTHS.true))

pub returns-then-not-part_fits : goal.returns-then-not-part_fits
returns-then-not-part_fits c = sym (form_layer c.args.list.now
    c.args.text.now c.args.at
    (rw c.number_at-n.ensures.0 at c.if-n-ge-LENGTHS.false)
    (sym c.part_fits.ensures ∙ c.if-not-part_fits.true))

pub returns-then-not-part_fits-2 : goal.returns-then-not-part_fits-2
returns-then-not-part_fits-2 c = sym (form_path c.args.list.now
    c.args.text.now
    c.args.at
    (rw c.number_at-n.ensures.0 at c.if-n-ge-LENGTHS.false)
    (sym c.part_fits.ensures ∙ c.if-not-part_fits.false)
    (sym c.part_fits-2.ensures ∙ c.if-not-part_fits-2.true))

pub slice_bounds-elements_fit-end : goal.slice_bounds-elements_fit-end
slice_bounds-elements_fit-end c = slice_end c.args.list.now
    c.args.text.now
    (c.args.at + 48) _ _
    (sym c.part_fits-2.ensures ∙ c.if-not-part_fits-2.false)
    c.number_at-start.ensures.0 c.number_at-size.ensures.0

pub returns : goal.returns
returns c = form_slice c.args.list.now
    c.args.text.now
    c.args.at _ _ _
    (rw c.number_at-n.ensures.0 at
    c.if-n-ge-LENGTHS.false)
    (sym c.part_fits.ensures ∙ c.if-not-part_fits.false)
    (sym c.part_fits-2.ensures ∙ c.if-not-part_fits-2.false)
    c.number_at-start.ensures.0 c.number_at-size.ensures.0 c.elements_fit.ensures
