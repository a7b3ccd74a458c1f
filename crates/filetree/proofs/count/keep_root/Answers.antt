use Rattle.std.proofs.Common.{arith}
use Rattle.filetree.proofs.Counting.{kept_empty, kept_full}
use Rattle.filetree.proofs.count.keep_root.Goals as goal

pub returns-then-length-eq0 : goal.returns-then-length-eq0
returns-then-length-eq0 c = kept_empty _ c.if-length-eq0.true _ _ _

pub overflow_cast-roots : goal.overflow_cast-roots
overflow_cast-roots c = let x = c.requires.1 c.if-length-eq0.false in omega arith

pub returns : goal.returns
returns c = kept_full _ c.if-length-eq0.false _ _ _
