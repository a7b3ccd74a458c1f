use Rattle.std.proofs.Common.{◌+◌, ◌*◌, ◌≡◌}
use Rattle.rounds1.specs.declared.Five.{Five}
use Rattle.rounds1.specs.Block.{rounds}
use Rattle.rounds1.proofs.twenty.Given as goal

abbrev pub invariant-loop-i : goal.invariant-loop-i
invariant-loop-i g l = (z : Five) → l.initial.t ≡ rounds l.w l.first z → l.t ≡ rounds l.w (l.first + 5 * l.i) z
