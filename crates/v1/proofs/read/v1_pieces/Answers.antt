use Rattle.std.proofs.Common.{rules}
use Rattle.v1.proofs.read.v1_pieces.Goals as goal

pub part_of-requires : goal.part_of-requires
part_of-requires c = (_, c.in_ok-sought.ensures.0)

pub returns-in_err-sought : goal.returns-in_err-sought
returns-in_err-sought c = let w = c.in_err-sought.ensures.1 in search (rules, w)

pub returns : goal.returns
returns c = c.in_ok-sought.ensures.2 _ c.part_of.ensures
