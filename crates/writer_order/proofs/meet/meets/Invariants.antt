use Rattle.std.proofs.Common.{map, ◌-◌, drop, ◌≡◌}
use Rattle.writer_lists.specs.Lists.{item_at}
use Rattle.writer_order.specs.Neighbours.{neighbours, leads}
use Rattle.writer_order.proofs.meet.meets.Given as goal

abbrev pub invariant-loop-i : goal.invariant-loop-i
invariant-loop-i l = neighbours leads (map (item_at l.list l.text) l.at) ≡ neighbours leads (map (item_at l.list l.text) (drop (l.i - 1) l.at))
