-- The length is read with its bound; a slice has fewer than 2^63 bytes, so that a longer length never fits and the bound changes nothing.
use Rattle.std.proofs.Common.{arith, sym, ◌∙◌}
use Rattle.bencode.proofs.Reading.{length_ends, string_none, string_content, string_short}
use Rattle.bencode.proofs.scalar.read_string.Goals as goal

pub overflow_sub-bytes : goal.overflow_sub-bytes
overflow_sub-bytes c = (length_ends _ _ (omega arith) _ _ (sym c.in_ok-value.ensures)).1

pub returns-in_err-value : goal.returns-in_err-value
returns-in_err-value c = c.from_residual.ensures ∙ sym (string_none _ _ (omega arith) (sym c.in_err-value.ensures))

pub returns-then-value-bytes : goal.returns-then-value-bytes
returns-then-value-bytes c = sym (string_content _ _ (omega arith) _ _ (sym c.in_ok-value.ensures) c.if-value-bytes.true)

pub returns-else-value-bytes : goal.returns-else-value-bytes
returns-else-value-bytes c = sym (string_short _ _ (omega arith) _ _ (sym c.in_ok-value.ensures) c.if-value-bytes.false)
