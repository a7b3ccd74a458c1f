use Rattle.std.proofs.Common.{ℕ, ◌+◌}
use Rattle.lanes.specs.Hashes.{Filled}
use Rattle.saved.specs.Form.{hash_in}
use Rattle.saved.proofs.chain.gathered.Given as goal

abbrev pub invariant-loop-x : goal.invariant-loop-x
invariant-loop-x l = Filled (λ (y : ℕ). hash_in l.bytes (l.place + y)) 512 l.x l.row
