use Rattle.std.proofs.Common.{arith}
use Rattle.saved.proofs.Pairs.{pair_ready, pair_alone}
use Rattle.saved.proofs.chain.pair_in.Goals as goal

pub overflow_sub-first : goal.overflow_sub-first
overflow_sub-first c = omega arith

pub hash_at-requires : goal.hash_at-requires
hash_at-requires c = omega (arith, c.requires.0.size)

pub returns-then-first-places : goal.returns-then-first-places
returns-then-first-places c = pair_ready _ _ _ _ _ c.requires.0 c.if-first-places.true c.hash_at.ensures

pub returns : goal.returns
returns c = pair_alone _ _ _ _ _ c.hash_in-left.ensures c.hash_in-right.ensures c.pair.ensures
