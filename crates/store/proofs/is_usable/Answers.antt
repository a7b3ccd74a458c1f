-- Each return is one conjunct of the definition; the size is worked out only where the range test held.
use Rattle.std.proofs.Common.{sym, ◌∙◌}
use Rattle.store.proofs.Answers.{usable_by, unusable_by}
use Rattle.store.specs.StoreLaws.{usable_short, range_says}
use Rattle.store.proofs.is_usable.Goals as goal

pub returns-then-store-lt64 : goal.returns-then-store-lt64
returns-then-store-lt64 c = usable_short _ c.if-store-lt64.true

pub size_in_range-requires : goal.size_in_range-requires
size_in_range-requires c = (range_says _ _ (sym c.if-facts_in_range.ensures)).1

pub returns-then-facts_in_range : goal.returns-then-facts_in_range
returns-then-facts_in_range c = usable_by _ _ _ _ _ c.if-store-lt64.false c.file_length-n.ensures c.piece_length_of-plen.ensures c.facts_in_range.ensures c.if-facts_in_range.true c.size_in_range.ensures

pub returns-else-facts_in_range : goal.returns-else-facts_in_range
returns-else-facts_in_range c = c.if-facts_in_range.false ∙ unusable_by _ _ _ _ c.file_length-n.ensures c.piece_length_of-plen.ensures c.facts_in_range.ensures c.if-facts_in_range.false
