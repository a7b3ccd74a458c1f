use Rattle.std.proofs.Common.{arith}
use Rattle.torrent.proofs.Answering.{string_order, one_answer}
use Rattle.torrent.specs.FindLaws.{found_root}
use Rattle.torrent.proofs.read.one_file.Goals as goal

pub root_of-root-requires : goal.root_of-root-requires
root_of-root-requires c = found_root _ _ c.requires.1 _ _ c.find_file-f.ensures

pub layer_of-requires : goal.layer_of-requires
layer_of-requires c = found_root _ _ c.requires.1 _ _ c.find_file-f.ensures

pub overflow_add-result : goal.overflow_add-result
overflow_add-result c = let x = string_order _ _ _ _ _ _ _ c.layer_of.ensures c.in-Some.is in let y = x.0 in let z = x.1 in let u = c.requires.2 in omega arith

pub overflow_sub-result : goal.overflow_sub-result
overflow_sub-result c = (string_order _ _ _ _ _ _ _ c.layer_of.ensures c.in-Some.is).0

pub returns-in-None : goal.returns-in-None
returns-in-None c = one_answer _ _ _ _ _ _ c.find_file-f.ensures.place _ c.root_of-root.ensures _ _ c.layer_of.ensures c.in-None.is

pub returns-in-Some : goal.returns-in-Some
returns-in-Some c = one_answer _ _ _ _ _ _ c.find_file-f.ensures.place _ c.root_of-root.ensures _ _ c.layer_of.ensures c.in-Some.is
