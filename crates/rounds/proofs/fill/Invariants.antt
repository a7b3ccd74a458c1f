use Rattle.std.proofs.Common.{◌*◌, take, drop}
use Rattle.rounds.specs.Stage.{Stage}
use Rattle.rounds.proofs.fill.Given as goal

abbrev pub invariant-loop-i : goal.invariant-loop-i
invariant-loop-i l = Stage (take 64 (drop l.at l.bytes)) (4 * l.i) l.w
