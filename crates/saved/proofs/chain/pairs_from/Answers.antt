use Rattle.std.proofs.Common.{arith}
use Rattle.saved.proofs.Pairs.{pairs_of}
use Rattle.saved.proofs.chain.pairs_from.Goals as goal

pub gathered-row-requires : goal.gathered-row-requires
gathered-row-requires c = omega (arith, c.requires)

pub returns : goal.returns
returns c = pairs_of _ _ _ _ c.gathered-row.ensures c.pairs8.ensures
