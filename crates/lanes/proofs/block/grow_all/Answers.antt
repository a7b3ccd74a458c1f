-- The loop's invariant: the lanes below j have four words more, the others are as they were.
-- Assumes nothing.
use Rattle.std.proofs.Common.{arith, ◌≡◌, ◌∙◌}
use Rattle.lanes.specs.LanesLaws.{passed_none, passed_more}
use Rattle.lanes.proofs.block.grow_all.Goals as goal

pub loop-j-init : goal.loop-j-init
loop-j-init c = (passed_none 64 _ _)

pub grow4-requires : goal.grow4-requires
grow4-requires c = (c.requires.0, omega arith, c.loop-j.invariant.size ∙ c.requires.1)

pub loop-j-preserved : goal.loop-j-preserved
loop-j-preserved c = (passed_more 64 _ c.loop-j.j _ c.loop-j.w _ (omega arith) c.loop-j.invariant c.grow4.ensures.1 c.grow4.ensures.0
    )

pub returns : goal.returns
returns c = let e : c.loop-j.j ≡ 8 = omega arith in rw e at c.loop-j.invariant
