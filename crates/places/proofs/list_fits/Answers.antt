use Rattle.std.proofs.Common.{sym, ◌∙◌}
use Rattle.places.proofs.PlacesLaws.{number_4, number_24, number_0}
use Rattle.places.proofs.list_fits.Goals as goal

pub returns-then-not-right : goal.returns-then-not-right
returns-then-not-right c = sym (number_4 _ _ (sym c.list_right-right.ensures ∙ c.if-not-right.true))

pub returns-then-not-range : goal.returns-then-not-range
returns-then-not-range c = sym (number_24 _ _ (sym c.list_right-right.ensures ∙ c.if-not-right.false)
    (sym c.is_piece_length-range.ensures ∙ c.if-not-range.true))

pub returns : goal.returns
returns c = sym (number_0 _ _ (sym c.list_right-right.ensures ∙ c.if-not-right.false)
    (sym c.is_piece_length-range.ensures ∙ c.if-not-range.false))
