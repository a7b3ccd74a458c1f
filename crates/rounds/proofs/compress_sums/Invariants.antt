use Rattle.std.proofs.Common.{◌*◌, ◌≡◌}
use Rattle.rounds.specs.Sums.{rounds_by}
use Rattle.rounds.proofs.compress_sums.Given as goal

abbrev pub invariant-loop-i : goal.invariant-loop-i
invariant-loop-i l = (l.t ≡ rounds_by l.sums (16 * l.i) l.state)
