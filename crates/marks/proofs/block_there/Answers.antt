use Rattle.std.proofs.Common.{arith, sym, ◌∙◌}
use Rattle.store.specs.StoreLaws.{usable_facts}
use Rattle.marks.specs.MarksLaws.{there_unusable, there_outside, there_inside}
use Rattle.marks.proofs.block_there.Goals as goal

pub returns-then-not-is_usable : goal.returns-then-not-is_usable
returns-then-not-is_usable c = there_unusable _ _ (sym c.is_usable.ensures ∙ c.if-not-is_usable.true)

pub blocks_of-requires : goal.blocks_of-requires
blocks_of-requires c = (usable_facts _ (sym c.is_usable.ensures ∙ c.if-not-is_usable.false)).long

pub returns-then-block-blocks_of : goal.returns-then-block-blocks_of
returns-then-block-blocks_of c = there_inside _ _ (sym c.is_usable.ensures ∙ c.if-not-is_usable.false) (omega (arith, c.blocks_of.ensures, c.if-block-blocks_of.true))

pub returns : goal.returns
returns c = there_outside _ _ (sym c.is_usable.ensures ∙ c.if-not-is_usable.false) (omega (arith, c.blocks_of.ensures, c.if-block-blocks_of.false))
