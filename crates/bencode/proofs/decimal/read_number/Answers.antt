-- By the first byte: a zero stands alone, any other digit begins the digits.
use Rattle.std.proofs.Common.{eq-eqb, ne_eqb, ap, sym, ◌∙◌}
use Rattle.bencode.specs.Scalar.{bounded}
use Rattle.bencode.proofs.Reading.{number_end, number_step, zero_bounded}
use Rattle.bencode.proofs.decimal.read_number.Goals as goal

pub returns-then-bytes-at : goal.returns-then-bytes-at
returns-then-bytes-at c = sym (ap bounded (number_end _ _ _ c.if-bytes-at.true))

pub returns-then-c-eq48 : goal.returns-then-c-eq48
returns-then-c-eq48 c = sym (ap bounded (number_step _ _ _ c.if-bytes-at.false) ∙ simp (eq-eqb _ _ c.if-c-eq48.true) (zero_bounded _ _ _ ∙ sym c.lone_zero.ensures))

pub returns-then-c-stop : goal.returns-then-c-stop
returns-then-c-stop c = sym (ap bounded (number_step _ _ _ c.if-bytes-at.false) ∙ simp (ne_eqb _ _ c.if-c-eq48.false, eq-eqb _ _ c.if-c-stop.true))

pub returns : goal.returns
returns c = sym (ap bounded (number_step _ _ _ c.if-bytes-at.false) ∙ simp (ne_eqb _ _ c.if-c-eq48.false, ne_eqb _ _ c.if-c-stop.false) (sym c.digits.ensures))
