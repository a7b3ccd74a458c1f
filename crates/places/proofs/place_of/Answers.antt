use Rattle.std.proofs.Common.{rules, arith, ap, sym, ◌∙◌}
use Rattle.numbers.specs.Refusals.{refused_is_some}
use Rattle.places.specs.Places.{no_place}
use Rattle.places.proofs.PlacesLaws.{place_refused, place_found}
use Rattle.places.proofs.place_of.Goals as goal

pub returns-in_err-list_fits : goal.returns-in_err-list_fits
returns-in_err-list_fits c =
    let e = c.in_err-list_fits.ensures in
    let w = ap no_place e ∙ sym (place_refused _ _ c.args.piece (λ z. refused_is_some _ (e ∙ z))) in
    search (rules, w)

pub find_place-requires : goal.find_place-requires
find_place-requires c = omega arith

pub returns : goal.returns
returns c = c.find_place.ensures ∙ sym (place_found _ _ _ (sym c.in_ok-list_fits.ensures))
