use Rattle.std.proofs.Common.{◌-◌, ◌≤◌, ◌≡◌}
use Rattle.octets.specs.Octets.{cut}
use Rattle.halves.specs.V1Half.{letter_p}
use Rattle.meaning.specs.Torrent.{without}
use Rattle.hybrid.proofs.without_p.Given as goal

abbrev pub invariant-loop-i : goal.invariant-loop-i
invariant-loop-i l = (l.start ≤ l.i) × (l.i ≤ l.end) × (without letter_p (cut l.bytes l.start (l.end - l.start)) ≡ without letter_p (cut l.bytes l.i (l.end - l.i)))
