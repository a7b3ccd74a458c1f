use Rattle.std.proofs.Common.{arith}
use Rattle.catalogue.proofs.Writing.{elements_start, elements_room, elements_more, elements_all}
use Rattle.catalogue.proofs.record.put_elements.Goals as goal

pub loop-k-init : goal.loop-k-init
loop-k-init c = (elements_start _ _ _ _ _)

pub put_element-requires : goal.put_element-requires
put_element-requires c = let l = elements_room _ _ _ _ _ _ _ c.requires.0 c.loop-k.invariant (omega arith) in let h = c.requires.0 in (omega arith, c.loop-k-test.true, c.requires.1)

pub loop-k-preserved : goal.loop-k-preserved
loop-k-preserved c = (elements_more _ _ _ _ _ _ _ c.requires.0 c.loop-k.invariant _ c.loop-k-test.true c.put_element.ensures)

pub shape_of-out : goal.shape_of-out
shape_of-out c = elements_room _ _ _ _ _ _ _ c.requires.0 c.loop-k.invariant (omega arith)

pub returns : goal.returns
returns c = elements_all _ _ _ _ _ _ _ c.requires.0 c.loop-k.invariant (omega arith) c.loop-k-test.false
