use Rattle.std.proofs.Common.{◌≡◌, ℕ}
use Rattle.std.specs.Prelude.{Bool}
use Rattle.writer_meaning.specs.Content.{Item}
use Rattle.writer_lists.specs.Lists.{item_at}
use Rattle.writer_order.specs.Order.{InForm}
use Rattle.writer_order.specs.StepsLaws.{Clashing, Seen}
use Rattle.writer_order.proofs.clash.clashes.Given as goal

abbrev pub invariant-loop-place : goal.invariant-loop-place
invariant-loop-place g l =
    Seen l.list l.text l.last
    × ((alone : Item → Bool) (beside : Item → Item → Bool)
    → ((p : ℕ) (r : Bool) → InForm l.list l.text p → goal.F-post g l.wrong p r → r ≡ alone (item_at l.list l.text p))
    → ((p q : ℕ) (r : Bool) → InForm l.list l.text p → InForm l.list l.text q → goal.G-post g l.agrees p q r
    → r ≡ beside (item_at l.list l.text p) (item_at l.list l.text q))
    → Clashing l.list l.text alone beside l.at l.last l.place-index)
