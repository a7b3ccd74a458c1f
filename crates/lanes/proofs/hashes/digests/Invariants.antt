use Rattle.std.proofs.Common.{ℕ}
use Rattle.sha256.specs.Sha256.{digest}
use Rattle.lanes.specs.Hashes.{Filled}
use Rattle.lanes.specs.Lanes.{state_in}
use Rattle.lanes.proofs.hashes.digests.Given as goal

abbrev pub invariant-loop-j : goal.invariant-loop-j
invariant-loop-j l = Filled (λ (x : ℕ). digest (state_in l.t x)) 256 l.j l.r
