use Rattle.std.proofs.Common.{◌+◌, ◌≤◌, length, ◌≡◌}
use Rattle.saved.specs.Saved.{mended, mended_many}
use Rattle.saved.proofs.repair.mend_by.Given as goal

abbrev pub invariant-loop-k : goal.invariant-loop-k
invariant-loop-k l = (l.kept + l.k ≤ l.places) × (mended l.height l.blocks l.bytes l.store l.k ≡ mended l.height l.blocks l.bytes l.initial.store l.places) × (l.kept + mended_many l.height l.blocks l.bytes l.store l.k ≡ mended_many l.height l.blocks l.bytes l.initial.store l.places) × (length l.store ≡ length l.initial.store)

abbrev pub decreases-loop-k : goal.decreases-loop-k
decreases-loop-k l = l.k
