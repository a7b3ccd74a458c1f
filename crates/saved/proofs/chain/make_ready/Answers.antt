use Rattle.std.proofs.Common.{arith}
use Rattle.saved.proofs.Pairs.{ready_short, ready_put}
use Rattle.saved.proofs.chain.make_ready.Goals as goal

pub returns-then-n-places : goal.returns-then-n-places
returns-then-n-places c = ready_short _ _ _ _ c.requires.0 c.requires.1 c.if-n-places.true

pub pairs_from-hashes-requires : goal.pairs_from-hashes-requires
pairs_from-hashes-requires c = omega (arith, c.requires.3, c.if-n-places.false)

pub put8-requires : goal.put8-requires
put8-requires c = omega (arith, c.requires.0)

pub returns : goal.returns
returns c = ready_put _ _ _ _ _ _ c.requires.0 c.requires.1 c.pairs_from-hashes.ensures c.put8.ensures
