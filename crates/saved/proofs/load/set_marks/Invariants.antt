use Rattle.std.proofs.Common.{length, ◌≡◌}
use Rattle.saved.specs.Saved.{marks_set}
use Rattle.saved.proofs.load.set_marks.Given as goal

abbrev pub invariant-loop-k : goal.invariant-loop-k
invariant-loop-k l = (l.store ≡ marks_set l.initial.store l.bytes l.at l.k) × (length l.store ≡ length l.initial.store)
