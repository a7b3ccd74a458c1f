-- A string, and then the order against the key before, where there was one.
use Rattle.std.proofs.Common.{ap, sym, ◌∙◌}
use Rattle.bencode.specs.Walk.{in_order}
use Rattle.bencode.specs.EndsLaws.{string_ends}
use Rattle.bencode.proofs.Reading.{key_first, key_next, key_back}
use Rattle.bencode.proofs.order.read_key.Goals as goal

pub slice_bounds-comes_before-count-in-Some : goal.slice_bounds-comes_before-count-in-Some
slice_bounds-comes_before-count-in-Some c = (string_ends _ _ _ _ (sym c.in_ok-key.ensures)).1

pub slice_bounds-comes_before-start-in-Some : goal.slice_bounds-comes_before-start-in-Some
slice_bounds-comes_before-start-in-Some c = (string_ends _ _ _ _ (sym c.in_ok-key.ensures)).1

pub slice_bounds-comes_before-end-in-Some : goal.slice_bounds-comes_before-end-in-Some
slice_bounds-comes_before-end-in-Some c = (string_ends _ _ _ _ (sym c.in_ok-key.ensures)).2

pub returns-in_err-key : goal.returns-in_err-key
returns-in_err-key c = c.from_residual.ensures ∙ sym (ap (in_order _ _ _) (sym c.in_err-key.ensures))

pub returns-then-comes_before : goal.returns-then-comes_before
returns-then-comes_before c = rw c.in-Some.is (sym (key_next _ _ _ (sym c.in_ok-key.ensures) _ (sym c.comes_before.ensures ∙ c.if-comes_before.true)))

pub returns-else-comes_before : goal.returns-else-comes_before
returns-else-comes_before c = rw c.in-Some.is (sym (key_back _ _ _ (sym c.in_ok-key.ensures) _ (sym c.comes_before.ensures ∙ c.if-comes_before.false)))

pub returns-in-None : goal.returns-in-None
returns-in-None c = rw c.in-None.is (sym (key_first _ _ _ (sym c.in_ok-key.ensures)))
