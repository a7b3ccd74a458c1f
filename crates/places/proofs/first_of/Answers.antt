use Rattle.std.proofs.Common.{rules, arith, ℕ, ap, sym, ◌∙◌}
use Rattle.numbers.specs.Numbers.{refused, done}
use Rattle.numbers.specs.Refusals.{refused_is_some}
use Rattle.places.proofs.PlacesLaws.{number_right, first_refused, first_past, first_done}
use Rattle.places.proofs.first_of.Goals as goal

pub returns-in_err-list_fits : goal.returns-in_err-list_fits
returns-in_err-list_fits c =
    let e = c.in_err-list_fits.ensures in
    let w = ap (λ (n : ℕ). refused n) e ∙ sym (first_refused _ _ c.args.file (λ z. refused_is_some _ (e ∙ z))) in
    search (rules, w)

pub returns-then-file-list : goal.returns-then-file-list
returns-then-file-list c = sym (first_past _ _ _ (sym c.in_ok-list_fits.ensures) (omega (arith, c.if-file-list.true)))

pub pieces_before-n-requires : goal.pieces_before-n-requires
pieces_before-n-requires c = let w = number_right _ _ (sym c.in_ok-list_fits.ensures) in (w.0, w.1, omega (arith, c.if-file-list.false))

pub returns : goal.returns
returns c = ap (λ (n : ℕ). done n) c.pieces_before-n.ensures ∙ sym (first_done _ _ _ (sym c.in_ok-list_fits.ensures) (omega (arith, c.if-file-list.false)))
