-- By the first byte, and then by the number: each way is one line of `negative` or `positive`.
use Rattle.std.proofs.Common.{eq-eqb, ne_eqb, lt-ltb, le-ltb, ap, sym, ◌∙◌}
use Rattle.bencode.specs.Scalar.{negative, positive}
use Rattle.bencode.proofs.Reading.{signed_end, signed_step}
use Rattle.bencode.proofs.scalar.read_signed.Goals as goal

pub returns-then-bytes-at : goal.returns-then-bytes-at
returns-then-bytes-at c = sym (signed_end _ _ c.if-bytes-at.true)

pub returns-in_err-value : goal.returns-in_err-value
returns-in_err-value c = c.from_residual.ensures ∙ sym (signed_step _ _ c.if-bytes-at.false ∙ simp (eq-eqb _ _ c.if-bytes-at-eq45.true) (ap negative (sym c.in_err-value.ensures)))

pub returns-then-value-eq0 : goal.returns-then-value-eq0
returns-then-value-eq0 c = sym (signed_step _ _ c.if-bytes-at.false ∙ simp (eq-eqb _ _ c.if-bytes-at-eq45.true) (ap negative (sym c.in_ok-value.ensures) ∙ simp (eq-eqb _ _ c.if-value-eq0.true)))

pub returns-else-value-eq0 : goal.returns-else-value-eq0
returns-else-value-eq0 c = sym (signed_step _ _ c.if-bytes-at.false ∙ simp (eq-eqb _ _ c.if-bytes-at-eq45.true) (ap negative (sym c.in_ok-value.ensures) ∙ simp (ne_eqb _ _ c.if-value-eq0.false)))

pub returns-in_err-value-2 : goal.returns-in_err-value-2
returns-in_err-value-2 c = c.from_residual-in_err-value-2.ensures ∙ sym (signed_step _ _ c.if-bytes-at.false ∙ simp (ne_eqb _ _ c.if-bytes-at-eq45.false) (ap positive (sym c.in_err-value-2.ensures)))

pub returns-then-value-lt-BOUND : goal.returns-then-value-lt-BOUND
returns-then-value-lt-BOUND c = sym (signed_step _ _ c.if-bytes-at.false ∙ simp (ne_eqb _ _ c.if-bytes-at-eq45.false) (ap positive (sym c.in_ok-value-2.ensures) ∙ simp (lt-ltb _ _ c.if-value-lt-BOUND.true)))

pub returns-else-value-lt-BOUND : goal.returns-else-value-lt-BOUND
returns-else-value-lt-BOUND c = sym (signed_step _ _ c.if-bytes-at.false ∙ simp (ne_eqb _ _ c.if-bytes-at-eq45.false) (ap positive (sym c.in_ok-value-2.ensures) ∙ simp (le-ltb _ _ c.if-value-lt-BOUND.false)))
