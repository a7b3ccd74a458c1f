-- The first bytes are taken, their hash is read off, and the state goes on.
use Rattle.std.proofs.Common.{arith}
use Rattle.extends.proofs.Ways.{begun_tail, begun_total, first_total, first_hash, whole_hash}
use Rattle.extends.proofs.ends_of.Goals as goal

pub absorb-first-requires : goal.absorb-first-requires
absorb-first-requires c = (begun_tail _ c.begin-begun.ensures, omega (arith, begun_total _ c.begin-begun.ensures))

pub absorb-all-requires : goal.absorb-all-requires
absorb-all-requires c = (c.absorb-first.ensures.1, omega (arith, c.requires, first_total _ _ c.args.block.now c.args.r c.begin-begun.ensures c.absorb-first.ensures.0))

pub returns : goal.returns
returns c = (
  first_hash c.args.block.now c.args.r _ _ c.begin-begun.ensures c.absorb-first.ensures.0 _ c.hash_of-last.ensures,
  whole_hash c.args.block.now c.args.r _ _ c.begin-begun.ensures c.absorb-first.ensures.0 c.requires _ _ c.absorb-all.ensures.0 c.hash_of-whole.ensures,
)
