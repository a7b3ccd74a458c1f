use Rattle.std.proofs.Common.{replicate, ◌≡◌}
use Rattle.padding.specs.Cutting.{over_blocks}
use Rattle.rounds1.specs.Block.{compress}
use Rattle.sha_1.proofs.zero_blocks.Given as goal

abbrev pub invariant-loop-i : goal.invariant-loop-i
invariant-loop-i l = l.t ≡ over_blocks compress l._i l.initial.t (replicate l.zeros 0)
