use Rattle.std.proofs.Common.{sym}
use Rattle.filetree.proofs.Reading.{ends_none, ends_byte}
use Rattle.filetree.proofs.token.ends_here.Goals as goal

pub returns-then-tree-at : goal.returns-then-tree-at
returns-then-tree-at c = sym (ends_none _ _ c.if-tree-at.true)

pub returns : goal.returns
returns c = sym (ends_byte _ _ c.if-tree-at.false)
