use Rattle.std.proofs.Common.{not, false, List, ℕ, ◌-◌, length, ◌≡◌}
use Rattle.writer_order.specs.ItemLaws.{ElementsPassed}
use Rattle.writer_meaning.specs.Number.{some}
use Rattle.meaning.specs.Torrent.{element_right}
use Rattle.writer_order.proofs.items.wrong_element.Given as goal

abbrev pub invariant-loop-at : goal.invariant-loop-at
invariant-loop-at l = (passed : List (List ℕ)) × ElementsPassed l.path l.at passed × (some (λ (e : List ℕ). not (element_right e)) passed ≡ false)

abbrev pub decreases-loop-at : goal.decreases-loop-at
decreases-loop-at l = length l.path - l.at
