use Rattle.std.proofs.Common.{List, ℕ, ◌-◌, length, ◌≡◌}
use Rattle.halves.specs.V1Half.{names_full}
use Rattle.bencode.specs.Grammar.{Items}
use Rattle.hybrid.specs.EntryLaws.{ItemsAt}
use Rattle.hybrid.proofs.names_full.Given as goal

abbrev pub invariant-loop-i : goal.invariant-loop-i
invariant-loop-i l = ((vs : Items) (rest : List ℕ) → ItemsAt l.bytes l.at vs rest → (us : Items) × ItemsAt l.bytes l.i us rest × (names_full vs ≡ names_full us))

abbrev pub decreases-loop-i : goal.decreases-loop-i
decreases-loop-i l = length l.bytes - l.i
