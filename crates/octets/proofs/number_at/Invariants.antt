use Rattle.std.proofs.Common.{◌<◌, ◌^◌, ◌≡◌}
use Rattle.octets.specs.Octets.{number_at}
use Rattle.octets.proofs.number_at.Given as goal

abbrev pub invariant-loop-i : goal.invariant-loop-i
invariant-loop-i l = (l.x ≡ number_at l.bytes l.at l.i) × (l.x < 256 ^ l.i)
