use Rattle.std.proofs.Common.{◌*◌, take, ◌≡◌}
use Rattle.octets.specs.Octets.{pasted}
use Rattle.lanes.proofs.hashes.put8.Given as goal

abbrev pub invariant-loop-x : goal.invariant-loop-x
invariant-loop-x l = (l.out ≡ pasted l.initial.out l.at (take (32 * l.x) l.hashes))
