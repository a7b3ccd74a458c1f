use Rattle.std.proofs.Common.{true, ◌≡◌}
use Rattle.writer_lists.specs.Lists.{form_up_to}
use Rattle.writer_lists.proofs.form.list_form.Given as goal

abbrev pub invariant-loop-i : goal.invariant-loop-i
invariant-loop-i l = (form_up_to l.list l.text l.i ≡ true)
