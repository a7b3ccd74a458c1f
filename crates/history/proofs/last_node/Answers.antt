use Rattle.std.proofs.Common.{arith, ◌*◌, ◌%◌, ◌^◌, length, ◌≡◌, rules}
use Rattle.history.specs.Growing.{node_count, node_at}
use Rattle.history.proofs.Steps.{shifted_block, shifted_some, last_whole, last_open}
use Rattle.history.proofs.last_node.Goals as goal

pub nonzero_rem-n : goal.nonzero_rem-n
nonzero_rem-n c = shifted_some c.args.k c.requires.1

pub hash_at-requires : goal.hash_at-requires
hash_at-requires c = omega (arith, (let it : length c.args.history.nodes ≡ 32 * node_count = search rules in it), c.requires.1)

pub returns-then-n-size-eq0 : goal.returns-then-n-size-eq0
unfolding node_at
returns-then-n-size-eq0 c = last_whole c.args.history c.hash_at.result c.args.k ((16384 * 2 ^ c.args.k) % 2 ^ 64) (shifted_block c.args.k c.requires.1) c.if-n-size-eq0.true c.hash_at.ensures

pub open_above-requires : goal.open_above-requires
open_above-requires c = omega (arith, (let it : length c.args.history.nodes ≡ 32 * node_count = search rules in it), c.requires.1)

pub returns : goal.returns
returns c = last_open c.args.history c.open_above.result c.open_leaf-leaf.result c.args.k ((16384 * 2 ^ c.args.k) % 2 ^ 64) (shifted_block c.args.k c.requires.1) c.if-n-size-eq0.false c.open_leaf-leaf.ensures c.open_above.ensures
