use Rattle.std.proofs.Common.{not, ◌+◌, ap, sym, ◌∙◌}
use Rattle.writer_order.specs.ItemLaws.{path_none, element_wrong, too_long, not_empty, empty_root}
use Rattle.writer_order.specs.CompareLaws.{form_parts}
use Rattle.writer_lists.specs.ListsLaws.{slice_end, slice_fits}
use Rattle.writer_order.proofs.items.wrong_item.Goals as goal

pub returns-then-m-eq0 : goal.returns-then-m-eq0
returns-then-m-eq0 c = path_none c.args.list.now c.args.text.now c.args.p _ _
    c.number_at-s.ensures.0 c.number_at-m.ensures.0 c.if-m-eq0.true

pub slice_bounds-wrong_element-end : goal.slice_bounds-wrong_element-end
slice_bounds-wrong_element-end c = slice_end c.args.list.now c.args.text.now (c.args.p + 48) _ _
    (form_parts c.args.list.now c.args.text.now c.args.p c.requires.1).path_fits
    c.number_at-s.ensures.0 c.number_at-m.ensures.0

pub wrong_element-requires : goal.wrong_element-requires
wrong_element-requires c = slice_fits c.args.list.now c.args.text.now c.args.p _ _
    c.requires.1 c.number_at-s.ensures.0 c.number_at-m.ensures.0

pub returns-then-wrong_element : goal.returns-then-wrong_element
returns-then-wrong_element c = element_wrong c.args.list.now c.args.text.now
    c.args.p _ _ c.number_at-s.ensures.0
    c.number_at-m.ensures.0 c.requires.1 c.if-m-eq0.false _
    c.wrong_element.ensures c.if-wrong_element.true

pub returns-then-n-gt-LONGEST_FILE : goal.returns-then-n-gt-LONGEST_FILE
returns-then-n-gt-LONGEST_FILE c = too_long c.args.list.now
    c.args.text.now c.args.p _ _ c.number_at-s.ensures.0
    c.number_at-m.ensures.0 c.requires.1
    c.if-m-eq0.false _ c.wrong_element.ensures
    c.if-wrong_element.false _ c.number_at-n.ensures.0 c.if-n-gt-LONGEST_FILE.true

pub returns-then-n-ne0 : goal.returns-then-n-ne0
returns-then-n-ne0 c = not_empty c.args.list.now
    c.args.text.now c.args.p _ _ c.number_at-s.ensures.0
    c.number_at-m.ensures.0 c.requires.1
    c.if-m-eq0.false _ c.wrong_element.ensures
    c.if-wrong_element.false _ c.number_at-n.ensures.0 c.if-n-gt-LONGEST_FILE.false c.if-n-ne0.true

pub returns-then-same : goal.returns-then-same
returns-then-same c = sym
    (ap not c.if-same.true) ∙ empty_root c.args.list.now c.args.text.now c.args.p _ _
    c.number_at-s.ensures.0
    c.number_at-m.ensures.0 c.requires.1
    c.if-m-eq0.false _
    c.wrong_element.ensures
    c.if-wrong_element.false _
    c.number_at-n.ensures.0 c.if-n-gt-LONGEST_FILE.false
    c.if-n-ne0.false _ _ c.hash_at-root.ensures
    c.pad_value-none.ensures _ c.same.ensures

pub returns : goal.returns
returns c = sym
    (ap not c.if-same.false) ∙ empty_root c.args.list.now c.args.text.now c.args.p _ _
    c.number_at-s.ensures.0
    c.number_at-m.ensures.0 c.requires.1
    c.if-m-eq0.false _
    c.wrong_element.ensures
    c.if-wrong_element.false _
    c.number_at-n.ensures.0 c.if-n-gt-LONGEST_FILE.false
    c.if-n-ne0.false _ _ c.hash_at-root.ensures
    c.pad_value-none.ensures _ c.same.ensures
