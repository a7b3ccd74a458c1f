use Rattle.std.proofs.Common.{◌≡◌, false, ℕ}
use Rattle.std.specs.Prelude.{Bool}
use Rattle.writer_meaning.specs.Content.{Item}
use Rattle.writer_meaning.specs.Number.{some}
use Rattle.writer_lists.specs.Lists.{item_at, items_up_to}
use Rattle.writer_order.specs.Order.{InForm}
use Rattle.writer_order.proofs.items.one_fails.Given as goal

abbrev pub invariant-loop-i : goal.invariant-loop-i
invariant-loop-i g l =
    (test : Item → Bool)
    → ((p : ℕ) (r : Bool) → InForm l.list l.text p → goal.F-post g l.fails p r → r ≡ test (item_at l.list l.text p))
    → some test (items_up_to l.list l.text l.i) ≡ false
