-- Each return is one case of the definition, behind 9, 3 and 4.
use Rattle.extends.proofs.Ways.{inside_few, inside_first, inside_6, inside_rest}
use Rattle.extends.proofs.in_block.Goals as goal

pub returns-then-leaf-ne0 : goal.returns-then-leaf-ne0
returns-then-leaf-ne0 c = inside_6 _ _ _ _ c.requires _ c.held_hash-leaf.ensures c.if-leaf-ne0.true

pub ends_of-ends-requires : goal.ends_of-ends-requires
ends_of-ends-requires c = inside_first _ _ c.args.root _ c.requires

pub earlier_root-found-requires : goal.earlier_root-found-requires
earlier_root-found-requires c = inside_few _ _ c.args.root _ c.requires

pub returns : goal.returns
returns c = inside_rest _ _ _ _ c.requires _ c.held_hash-leaf.ensures c.if-leaf-ne0.false _ _ _ _ _ c.ends_of-ends.ensures c.same-right.ensures
    c.earlier_root-found.ensures c.reaches.ensures
