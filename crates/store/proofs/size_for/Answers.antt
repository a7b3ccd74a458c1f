-- The range test decides between the size and 10.
use Rattle.std.proofs.Common.{ap, sym, ◌∙◌}
use Rattle.numbers.specs.Numbers.{done}
use Rattle.store.specs.StoreLaws.{range_says, size_given, size_refused}
use Rattle.store.proofs.size_for.Goals as goal

pub size_in_range-size-requires : goal.size_in_range-size-requires
size_in_range-size-requires c = (range_says _ _ (sym c.if-facts_in_range.ensures)).1

pub returns-then-facts_in_range : goal.returns-then-facts_in_range
returns-then-facts_in_range c = ap done c.size_in_range-size.ensures ∙ size_given _ _ (sym c.if-facts_in_range.ensures)

pub returns : goal.returns
returns c = size_refused _ _ (sym c.if-facts_in_range.ensures)
