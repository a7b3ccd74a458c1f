use Rattle.std.proofs.Common.{true, ◌≡◌}
use Rattle.saved.specs.Form.{places_good, next_rank}
use Rattle.saved.proofs.form.places_good.Given as goal

abbrev pub invariant-loop-k : goal.invariant-loop-k
invariant-loop-k l = (places_good l.height l.bytes l.k ≡ true) × (l.next ≡ next_rank l.height l.bytes l.k)
