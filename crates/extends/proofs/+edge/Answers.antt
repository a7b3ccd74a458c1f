use Rattle.std.proofs.Common.{arith}
use Rattle.extends.proofs.ExtendsLaws.{mixed_left, mixed_right}
use Rattle.extends.proofs.Ways.{last_by, left_by, none_by, right_by, small, count_same}
use Rattle.extends.proofs.+edge.Goals as goal

pub returns-then-layer-eq0 : goal.returns-then-layer-eq0
returns-then-layer-eq0 t c = last_by _ _ _ _ _ c.requires.2 c.if-layer-eq0.true _ c.pad_value-pad.ensures

pub overflow_mul-j : goal.overflow_mul-j
overflow_mul-j t c = omega (arith, small _ _ _ c.requires.1 c.requires.2)

pub overflow_add-k : goal.overflow_add-k
overflow_add-k t c = omega (arith, small _ _ _ c.requires.1 c.requires.2)

pub edge-below-requires : goal.edge-below-requires
edge-below-requires t c = (omega (arith, c.decreases), (omega (arith, c.requires.0), c.requires.1, mixed_left _ _ _ c.requires.2 c.if-layer-eq0.false c.if-whole-j.true))

pub returns-then-whole-j : goal.returns-then-whole-j
returns-then-whole-j t c = left_by _ _ _ _ _ c.requires.2 c.if-layer-eq0.false _ _ _ _ c.if-whole-j.true c.edge-below.ensures c.parent.ensures

pub returns-then-some-k : goal.returns-then-some-k
returns-then-some-k t c = none_by _ _ _ _ _ c.requires.2 c.if-layer-eq0.false _ c.if-whole-j.false c.held_hash-left.ensures _ _ c.block_count-b.ensures c.covering-some.ensures c.if-some-k.true _ _ _ c.pad_value-pad-then-some-k.ensures c.parent-then-some-k.ensures

pub edge-below-requires-2 : goal.edge-below-requires-2
edge-below-requires-2 t c = (omega (arith, c.decreases), (omega (arith, c.requires.0), c.requires.1, mixed_right _ _ _ c.requires.2 c.if-layer-eq0.false (count_same _ _ _ _ _ c.block_count-b.ensures c.covering-some.ensures c.if-some-k.false)))

pub returns : goal.returns
returns t c = right_by _ _ _ _ _ c.requires.2 c.if-layer-eq0.false _ c.if-whole-j.false c.held_hash-left.ensures _ _ _ _ c.edge-below-2.ensures c.parent-2.ensures
