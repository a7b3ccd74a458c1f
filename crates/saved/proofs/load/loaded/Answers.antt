use Rattle.std.proofs.Common.{rules, refl, ap, sym, ◌∙◌}
use Rattle.numbers.specs.Numbers.{done}
use Rattle.numbers.specs.Refusals.{refused_is_some}
use Rattle.saved.proofs.Answers.{load_refused, load_unsound, load_done, sound_asks}
use Rattle.saved.proofs.load.loaded.Goals as goal

pub returns-in_err-opening_number : goal.returns-in_err-opening_number
returns-in_err-opening_number c =
    let w = load_refused _ _ _ c.in_err-opening_number.ensures (refused_is_some _) _ refl in
    record { answer = search (rules, w); left = w.1 }

pub is_sound-requires : goal.is_sound-requires
is_sound-requires c = sound_asks _ _ (sym c.in_ok-opening_number.ensures)

pub returns-then-not-is_sound : goal.returns-then-not-is_sound
returns-then-not-is_sound c =
    let w = load_unsound _ _ (sym c.in_ok-opening_number.ensures) _ c.is_sound.ensures c.if-not-is_sound.true _ refl in
    record { answer = w.0; left = w.1 }

pub write_all-held-requires : goal.write_all-held-requires
write_all-held-requires c = (sym c.in_ok-opening_number.ensures, sym c.is_sound.ensures ∙ c.if-not-is_sound.false)

pub returns : goal.returns
returns c =
    let w = load_done _ _ (sym c.in_ok-opening_number.ensures) (sym c.is_sound.ensures ∙ c.if-not-is_sound.false) _ _ (ap done c.write_all-held.ensures.0) c.write_all-held.ensures.1 in
    record { answer = w.0; left = w.1 }
