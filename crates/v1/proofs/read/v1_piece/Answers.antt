use Rattle.std.proofs.Common.{rules}
use Rattle.v1.proofs.read.v1_piece.Goals as goal

pub piece_of-requires : goal.piece_of-requires
piece_of-requires c = c.in_ok-sought.ensures.0

pub returns-in_err-sought : goal.returns-in_err-sought
returns-in_err-sought c = let w = c.in_err-sought.ensures.0 c.args.piece in search (rules, w)

pub returns : goal.returns
returns c = c.in_ok-sought.ensures.1 _ _ c.piece_of.ensures
