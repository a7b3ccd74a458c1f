use Rattle.std.proofs.Common.{◌≤◌, ◌≡◌}
use Rattle.asking.specs.Picking.{best_of, picked}
use Rattle.asking.proofs.pick.best_piece.Given as goal

abbrev pub invariant-loop-i : goal.invariant-loop-i
invariant-loop-i l = (picked l.best ≡ best_of l.store l.counts l.i) × ((picked l.best).piece ≤ l.i)
