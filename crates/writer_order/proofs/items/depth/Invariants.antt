use Rattle.std.proofs.Common.{List, ℕ, ◌-◌, length, ◌≡◌}
use Rattle.writer_order.specs.ItemLaws.{ElementsPassed}
use Rattle.writer_order.proofs.items.depth.Given as goal

abbrev pub invariant-loop-at : goal.invariant-loop-at
invariant-loop-at l = (passed : List (List ℕ)) × ElementsPassed l.path l.at passed × (l.n ≡ length passed)

abbrev pub decreases-loop-at : goal.decreases-loop-at
decreases-loop-at l = length l.path - l.at
