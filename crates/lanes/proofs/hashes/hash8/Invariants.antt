use Rattle.lanes.specs.Hashes.{Filled, eighth_hash}
use Rattle.lanes.proofs.hashes.hash8.Given as goal

abbrev pub invariant-loop-j : goal.invariant-loop-j
invariant-loop-j l = Filled (eighth_hash l.bytes) 256 l.j l.r
