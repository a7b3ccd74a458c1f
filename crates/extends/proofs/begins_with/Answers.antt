-- Each return is one case of the definition.
use Rattle.store.specs.StoreLaws.{usable_long}
use Rattle.extends.proofs.Ways.{number_9, number_none, number_3, number_4, is_inside, few, number_rest}
use Rattle.extends.proofs.begins_with.Goals as goal

pub returns-then-not-usable : goal.returns-then-not-usable
returns-then-not-usable c = number_9 _ _ _ _ _ c.is_usable-usable.ensures (c.if-not-usable.true)

pub returns-then-length-eq0 : goal.returns-then-length-eq0
returns-then-length-eq0 c = number_none _ _ _ _ _ c.is_usable-usable.ensures (c.if-not-usable.false) c.if-length-eq0.true

pub file_length-most-requires : goal.file_length-most-requires
file_length-most-requires c = usable_long _ _ c.is_usable-usable.ensures (c.if-not-usable.false)

pub returns-then-length-most : goal.returns-then-length-most
returns-then-length-most c = number_3 _ _ _ _ _ c.is_usable-usable.ensures (c.if-not-usable.false) c.if-length-eq0.false _ c.file_length-most.ensures c.if-length-most.true

pub returns-then-block-size : goal.returns-then-block-size
returns-then-block-size c = number_4 _ _ _ _ _ c.is_usable-usable.ensures (c.if-not-usable.false) c.if-length-eq0.false _ c.file_length-most.ensures c.if-length-most.false _
    c.over_size-size.ensures c.if-block-size.true

pub in_block-requires : goal.in_block-requires
in_block-requires c = is_inside _ _ c.args.root _ _ c.is_usable-usable.ensures (c.if-not-usable.false) c.if-length-eq0.false _ c.file_length-most.ensures c.if-length-most.false _
    c.over_size-size.ensures c.if-block-size.false c.if-length-ne0.true

pub returns-then-length-ne0 : goal.returns-then-length-ne0
returns-then-length-ne0 c = c.in_block.ensures

pub earlier_root-found-requires : goal.earlier_root-found-requires
earlier_root-found-requires c = few _ _ c.args.root c.args.block.now _ c.is_usable-usable.ensures (c.if-not-usable.false) c.if-length-eq0.false _ c.file_length-most.ensures c.if-length-most.false _
    c.over_size-size.ensures c.if-block-size.false

pub returns : goal.returns
returns c = number_rest _ _ _ _ _ c.is_usable-usable.ensures (c.if-not-usable.false) c.if-length-eq0.false _ c.file_length-most.ensures c.if-length-most.false _
    c.over_size-size.ensures c.if-block-size.false c.if-length-ne0.false _ _ _ c.earlier_root-found.ensures c.reaches.ensures
