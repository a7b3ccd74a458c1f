use Rattle.std.proofs.Common.{◌≡◌}
use Rattle.heaps.specs.Heaps.{raised}
use Rattle.heaps.proofs.raise.Given as goal

abbrev pub invariant-loop-i : goal.invariant-loop-i
invariant-loop-i l = (l.h ≡ raised l.initial.h l.i)
