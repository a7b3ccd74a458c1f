use Rattle.std.proofs.Common.{arith, refl, sym, ◌∙◌}
use Rattle.saved.proofs.Saving.{layers_asked, marks_asked, save_unusable, save_short, save_counted, save_fits, save_done}
use Rattle.store.specs.StoreLaws.{usable_facts, facts_height, facts_blocks_most}
use Rattle.saved.proofs.save.written.Goals as goal

pub returns-then-not-is_usable : goal.returns-then-not-is_usable
returns-then-not-is_usable c =
    let w = save_unusable _ c.args.out.now _ c.is_usable.ensures c.if-not-is_usable.true _ refl in
    record { answer = w.0; left = w.1 }

pub height_of-h-requires : goal.height_of-h-requires
height_of-h-requires c = (usable_facts _ (sym c.is_usable.ensures ∙ c.if-not-is_usable.false)).long

pub overflow_add-h : goal.overflow_add-h
overflow_add-h c = omega (arith, c.height_of-h.ensures, facts_height _ (usable_facts _ (sym c.is_usable.ensures ∙ c.if-not-is_usable.false)))

pub count_layers-p-requires : goal.count_layers-p-requires
count_layers-p-requires c = layers_asked _ (sym c.is_usable.ensures ∙ c.if-not-is_usable.false) _ c.height_of-h.ensures

pub blocks_of-c-requires : goal.blocks_of-c-requires
blocks_of-c-requires c = (usable_facts _ (sym c.is_usable.ensures ∙ c.if-not-is_usable.false)).long

pub count_marks-m-requires : goal.count_marks-m-requires
count_marks-m-requires c = ((sym c.is_usable.ensures ∙ c.if-not-is_usable.false), marks_asked _ (sym c.is_usable.ensures ∙ c.if-not-is_usable.false) _ c.blocks_of-c.ensures)

pub overflow_mul-size : goal.overflow_mul-size
overflow_mul-size c = let e = c.height_of-h.ensures in let f = facts_height _ (usable_facts _ (sym c.is_usable.ensures ∙ c.if-not-is_usable.false)) in let p = c.count_layers-p.ensures.1 in let b = c.blocks_of-c.ensures in let g = facts_blocks_most _ (usable_facts _ (sym c.is_usable.ensures ∙ c.if-not-is_usable.false)) in let m = c.count_marks-m.ensures.1 in omega arith

pub overflow_add-size : goal.overflow_add-size
overflow_add-size c = let e = c.height_of-h.ensures in let f = facts_height _ (usable_facts _ (sym c.is_usable.ensures ∙ c.if-not-is_usable.false)) in let p = c.count_layers-p.ensures.1 in let b = c.blocks_of-c.ensures in let g = facts_blocks_most _ (usable_facts _ (sym c.is_usable.ensures ∙ c.if-not-is_usable.false)) in let m = c.count_marks-m.ensures.1 in omega arith

pub overflow_mul-size-2 : goal.overflow_mul-size-2
overflow_mul-size-2 c = let e = c.height_of-h.ensures in let f = facts_height _ (usable_facts _ (sym c.is_usable.ensures ∙ c.if-not-is_usable.false)) in let p = c.count_layers-p.ensures.1 in let b = c.blocks_of-c.ensures in let g = facts_blocks_most _ (usable_facts _ (sym c.is_usable.ensures ∙ c.if-not-is_usable.false)) in let m = c.count_marks-m.ensures.1 in omega arith

pub overflow_add-size-2 : goal.overflow_add-size-2
overflow_add-size-2 c = let e = c.height_of-h.ensures in let f = facts_height _ (usable_facts _ (sym c.is_usable.ensures ∙ c.if-not-is_usable.false)) in let p = c.count_layers-p.ensures.1 in let b = c.blocks_of-c.ensures in let g = facts_blocks_most _ (usable_facts _ (sym c.is_usable.ensures ∙ c.if-not-is_usable.false)) in let m = c.count_marks-m.ensures.1 in omega arith

pub returns-then-out-size : goal.returns-then-out-size
returns-then-out-size c =
    let w = save_short _ c.args.out.now (sym c.is_usable.ensures ∙ c.if-not-is_usable.false) _ _ _ _ c.height_of-h.ensures c.count_layers-p.ensures.0 c.blocks_of-c.ensures c.count_marks-m.ensures.0 _ c.if-out-size.true refl in
    record { answer = w.0; left = w.1 }

pub put_all-requires : goal.put_all-requires
put_all-requires c = ((sym c.is_usable.ensures ∙ c.if-not-is_usable.false), save_counted _ c.args.out.now (sym c.is_usable.ensures ∙ c.if-not-is_usable.false) _ _ _ _ c.height_of-h.ensures c.count_layers-p.ensures.0 c.blocks_of-c.ensures c.count_marks-m.ensures.0, save_fits _ c.args.out.now (sym c.is_usable.ensures ∙ c.if-not-is_usable.false) _ _ _ _ c.height_of-h.ensures c.count_layers-p.ensures.0 c.blocks_of-c.ensures c.count_marks-m.ensures.0 (omega (arith, c.if-out-size.false)))

pub returns : goal.returns
returns c =
    let w = save_done _ c.args.out.now (sym c.is_usable.ensures ∙ c.if-not-is_usable.false) _ _ _ _ c.height_of-h.ensures c.count_layers-p.ensures.0 c.blocks_of-c.ensures c.count_marks-m.ensures.0 _ _ (omega (arith, c.if-out-size.false)) refl c.put_all.ensures in
    record { answer = w.0; left = w.1 }
