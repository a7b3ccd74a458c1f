use Rattle.std.proofs.Common.{arith, ap, sym, ◌∙◌}
use Rattle.octets.specs.Octets.{pasted}
use Rattle.catalogue.proofs.Writing.{element_some, element_none}
use Rattle.catalogue.proofs.record.put_element.Goals as goal

pub overflow_add-base : goal.overflow_add-base
overflow_add-base c = let x = c.requires.2.forward _ c.if-k-n.true in let y = c.requires.2.inside _ c.if-k-n.true in omega arith

pub overflow_sub-end : goal.overflow_sub-end
overflow_sub-end c = c.requires.2.forward _ c.if-k-n.true

pub returns-then-k-n : goal.returns-then-k-n
returns-then-k-n c = c.put_part.ensures ∙ ap (pasted _ _) (sym (element_some _ _ _ _ c.if-k-n.true))

pub returns : goal.returns
returns c = c.put_number.ensures ∙ ap (pasted _ _) (sym (element_none _ _ _ _ c.if-k-n.false))
