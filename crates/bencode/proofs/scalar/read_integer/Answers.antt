-- The first byte decides; the rest is the signed number.
use Rattle.std.proofs.Common.{eq-eqb, ne_eqb, sym, ◌∙◌}
use Rattle.bencode.proofs.Reading.{integer_end, integer_step}
use Rattle.bencode.proofs.scalar.read_integer.Goals as goal

pub returns-then-bytes-at : goal.returns-then-bytes-at
returns-then-bytes-at c = sym (integer_end _ _ c.if-bytes-at.true)

pub returns-then-bytes-at-eq105 : goal.returns-then-bytes-at-eq105
returns-then-bytes-at-eq105 c = sym (integer_step _ _ c.if-bytes-at.false ∙ simp (eq-eqb _ _ c.if-bytes-at-eq105.true) (sym c.read_signed.ensures))

pub returns-else-bytes-at-eq105 : goal.returns-else-bytes-at-eq105
returns-else-bytes-at-eq105 c = sym (integer_step _ _ c.if-bytes-at.false ∙ simp (ne_eqb _ _ c.if-bytes-at-eq105.false))
