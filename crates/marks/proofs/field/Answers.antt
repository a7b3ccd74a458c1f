use Rattle.std.proofs.Common.{arith, sym, refl, ◌∙◌}
use Rattle.store.specs.StoreLaws.{usable_facts}
use Rattle.marks.specs.MarksLaws.{field_unusable, field_short, field_size_most}
use Rattle.marks.proofs.Answers.{field_sized, field_given}
use Rattle.marks.proofs.field.Goals as goal

pub file_length-length-requires : goal.file_length-length-requires
file_length-length-requires c = (usable_facts _ (sym c.is_usable.ensures ∙ c.if-not-is_usable.false)).long

pub piece_length_of-plen-requires : goal.piece_length_of-plen-requires
piece_length_of-plen-requires c = (usable_facts _ (sym c.is_usable.ensures ∙ c.if-not-is_usable.false)).long

pub write_field-requires : goal.write_field-requires
write_field-requires c = ((sym c.is_usable.ensures ∙ c.if-not-is_usable.false), omega (arith, c.if-out-size.false), omega (arith, field_sized _ _ _ _ _ c.file_length-length.ensures c.piece_length_of-plen.ensures c.piece_count-c.ensures c.ceil_div-size.ensures, field_size_most _ (usable_facts _ (sym c.is_usable.ensures ∙ c.if-not-is_usable.false))))

pub returns-then-not-is_usable : goal.returns-then-not-is_usable
returns-then-not-is_usable c =
    let w = field_unusable _ c.args.out.now (sym c.is_usable.ensures ∙ c.if-not-is_usable.true) in
    record { answer = w.0; left = w.1 }

pub returns-then-out-size : goal.returns-then-out-size
returns-then-out-size c =
    let w = field_short _ c.args.out.now (sym c.is_usable.ensures ∙ c.if-not-is_usable.false) (omega (arith, field_sized _ _ _ _ _ c.file_length-length.ensures c.piece_length_of-plen.ensures c.piece_count-c.ensures c.ceil_div-size.ensures, c.if-out-size.true)) in
    record { answer = w.0; left = w.1 }

pub returns : goal.returns
returns c =
    let w = field_given _ _ _ _ (sym c.is_usable.ensures ∙ c.if-not-is_usable.false) (field_sized _ _ _ _ _ c.file_length-length.ensures c.piece_length_of-plen.ensures c.piece_count-c.ensures c.ceil_div-size.ensures) (omega (arith, c.if-out-size.false)) c.write_field.ensures _ refl in
    record { answer = w.0; left = w.1 }
