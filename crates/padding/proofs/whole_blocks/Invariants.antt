use Rattle.std.proofs.Common.{◌≡◌}
use Rattle.padding.specs.Cutting.{over_blocks}
use Rattle.padding.proofs.whole_blocks.Given as goal

abbrev pub invariant-loop-i : goal.invariant-loop-i
invariant-loop-i g l = l.t ≡ over_blocks (g.H.Rounds.taken l.rounds) l.i l.initial.t l.bytes
