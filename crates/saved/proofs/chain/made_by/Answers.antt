use Rattle.std.proofs.Common.{arith}
use Rattle.saved.proofs.Pairs.{pair_made}
use Rattle.saved.proofs.chain.made_by.Goals as goal

pub pair_in-v-requires : goal.pair_in-v-requires
pair_in-v-requires c = (c.requires.0, omega (arith, c.requires.1, c.requires.2), c.requires.3)

pub returns : goal.returns
returns c = pair_made _ _ _ _ _ _ c.pair_in-v.ensures c.hash_in-w.ensures c.same.ensures
