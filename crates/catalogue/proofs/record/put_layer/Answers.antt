use Rattle.std.proofs.Common.{arith}
use Rattle.catalogue.proofs.Writing.{layer_forward, no_layer_written, layer_written}
use Rattle.catalogue.proofs.record.put_layer.Goals as goal

pub overflow_add-base : goal.overflow_add-base
overflow_add-base c = let x = layer_forward _ _ _ _ c.in-Some.is c.requires.1 in let y = x.0 in let z = x.1 in omega arith

pub overflow_sub-end : goal.overflow_sub-end
overflow_sub-end c = (layer_forward _ _ _ _ c.in-Some.is c.requires.1).0

pub returns-in-None : goal.returns-in-None
returns-in-None c = no_layer_written _ _ _ _ _ c.in-None.is c.put_part.ensures

pub returns-in-Some : goal.returns-in-Some
returns-in-Some c = layer_written _ _ _ _ _ _ _ c.in-Some.is c.put_part-in-Some.ensures
