use Rattle.std.proofs.Common.{arith}
use Rattle.torrent.specs.FindLaws.{element_here, element_past}
use Rattle.torrent.proofs.read.element_of.Goals as goal

pub overflow_add-result : goal.overflow_add-result
overflow_add-result c = let x = c.requires.forward _ c.if-element-elements.true in let y = c.requires.inside _ c.if-element-elements.true in omega arith

pub overflow_sub-result : goal.overflow_sub-result
overflow_sub-result c = c.requires.forward _ c.if-element-elements.true

pub returns-then-element-elements : goal.returns-then-element-elements
returns-then-element-elements c = element_here _ _ _ _ c.if-element-elements.true

pub returns : goal.returns
returns c = element_past _ _ _ _ c.if-element-elements.false
