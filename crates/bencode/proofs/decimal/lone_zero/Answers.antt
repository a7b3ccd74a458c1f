-- One byte decides.
use Rattle.std.proofs.Common.{eq-eqb, ne_eqb, sym, ◌∙◌}
use Rattle.bencode.proofs.Reading.{zero_end, zero_step}
use Rattle.bencode.proofs.decimal.lone_zero.Goals as goal

pub returns-then-bytes-at : goal.returns-then-bytes-at
returns-then-bytes-at c = sym (zero_end _ _ _ c.if-bytes-at.true)

pub returns-then-bytes-at-2 : goal.returns-then-bytes-at-2
returns-then-bytes-at-2 c = sym (zero_step _ _ _ c.if-bytes-at.false ∙ simp (eq-eqb _ _ c.if-bytes-at-2.true))

pub returns-else-bytes-at-2 : goal.returns-else-bytes-at-2
returns-else-bytes-at-2 c = sym (zero_step _ _ _ c.if-bytes-at.false ∙ simp (ne_eqb _ _ c.if-bytes-at-2.false))
