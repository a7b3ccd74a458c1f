use Rattle.std.proofs.Common.{arith, length-set}
use Rattle.filetree.proofs.path.set_element.Goals as goal

pub bounds-path-depth-2 : goal.bounds-path-depth-2
bounds-path-depth-2 c = simp length-set (let x = c.requires.0 in let y = c.requires.1 in omega arith)
