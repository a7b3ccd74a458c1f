use Rattle.std.proofs.Common.{true, ◌≡◌}
use Rattle.saved.specs.Form.{marks_good, next_block}
use Rattle.saved.proofs.form.marks_good.Given as goal

abbrev pub invariant-loop-k : goal.invariant-loop-k
invariant-loop-k l = (marks_good l.blocks l.bytes l.at l.k ≡ true) × (l.next ≡ next_block l.bytes l.at l.k)
