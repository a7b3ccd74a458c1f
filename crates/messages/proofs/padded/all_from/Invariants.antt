use Rattle.std.proofs.Common.{true, ◌≤◌, ◌≡◌}
use Rattle.messages.specs.Padded.{all_from}
use Rattle.messages.proofs.padded.all_from.Given as goal

abbrev pub invariant-loop-i : goal.invariant-loop-i
invariant-loop-i l = (l.from ≤ l.i) × (all_from l.run l.v l.from l.i ≡ true)
