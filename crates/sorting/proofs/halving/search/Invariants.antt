use Rattle.std.proofs.Common.{◌-◌}
use Rattle.sorting.proofs.Narrowing.{Narrowed}
use Rattle.sorting.proofs.halving.search.Given as goal

abbrev pub invariant-loop-low : goal.invariant-loop-low
invariant-loop-low l = Narrowed l.bytes l.at l.count l.key l.low l.high

abbrev pub decreases-loop-low : goal.decreases-loop-low
decreases-loop-low l = l.high - l.low
