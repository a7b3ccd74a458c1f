use Rattle.std.proofs.Common.{rules, arith, refl, sym, ◌∙◌}
use Rattle.numbers.specs.Refusals.{refused_is_some}
use Rattle.saved.proofs.SoundLaws.{rooted_formed}
use Rattle.saved.proofs.Answers.{repair_refused, repair_unrooted, repair_done, sound_asks, formed_sized}
use Rattle.saved.proofs.repair.kept.Goals as goal

pub returns-in_err-opening_number : goal.returns-in_err-opening_number
returns-in_err-opening_number c =
    let w = repair_refused _ _ _ c.in_err-opening_number.ensures (refused_is_some _) _ refl in
    record { answer = search (rules, w); left = w.1 }

pub is_rooted-requires : goal.is_rooted-requires
is_rooted-requires c = sound_asks _ _ (sym c.in_ok-opening_number.ensures)

pub returns-then-not-is_rooted : goal.returns-then-not-is_rooted
returns-then-not-is_rooted c =
    let w = repair_unrooted _ _ (sym c.in_ok-opening_number.ensures) _ c.is_rooted.ensures c.if-not-is_rooted.true _ refl in
    record { answer = w.0; left = w.1 }

pub write_kept-held-requires : goal.write_kept-held-requires
write_kept-held-requires c = (sym c.in_ok-opening_number.ensures, sym c.is_rooted.ensures ∙ c.if-not-is_rooted.false)

pub place_count-p-requires : goal.place_count-p-requires
place_count-p-requires c = formed_sized _ _ refl (rooted_formed _ (sym c.is_rooted.ensures ∙ c.if-not-is_rooted.false))

pub overflow_sub-dropped : goal.overflow_sub-dropped
overflow_sub-dropped c = omega (arith, c.write_kept-held.ensures.2, c.place_count-p.ensures)

pub returns : goal.returns
returns c =
    let w = repair_done _ _ (sym c.in_ok-opening_number.ensures) (sym c.is_rooted.ensures ∙ c.if-not-is_rooted.false) _ _ _ c.write_kept-held.ensures.0 c.place_count-p.ensures c.write_kept-held.ensures.1 in
    record { answer = w.0; left = w.1 }
