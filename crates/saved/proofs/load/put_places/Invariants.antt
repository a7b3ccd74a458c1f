use Rattle.std.proofs.Common.{length, ◌≡◌}
use Rattle.cells.specs.Entries.{put_all}
use Rattle.saved.specs.Saved.{entries_in}
use Rattle.saved.proofs.load.put_places.Given as goal

abbrev pub invariant-loop-k : goal.invariant-loop-k
invariant-loop-k l = (l.store ≡ put_all l.initial.store (entries_in l.height l.bytes l.k)) × (length l.store ≡ length l.initial.store)
