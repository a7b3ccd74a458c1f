use Rattle.std.proofs.Common.{arith}
use Rattle.saved.proofs.Answers.{place_range, place_put, place_below}
use Rattle.saved.proofs.load.put_place.Goals as goal

pub node_number-n-requires : goal.node_number-n-requires
node_number-n-requires c = ((place_range _ _ _ _ _ c.layer_in-l.ensures c.index_in-i.ensures c.requires.2).0, omega (arith, c.requires.0), (place_range _ _ _ _ _ c.layer_in-l.ensures c.index_in-i.ensures c.requires.2).1)

pub put_at-requires : goal.put_at-requires
put_at-requires c = omega (arith, place_below _ _ _ _ _ c.layer_in-l.ensures c.index_in-i.ensures c.requires.2 _ c.node_number-n.ensures, c.requires.3)

pub returns : goal.returns
returns c = place_put _ _ _ _ _ c.layer_in-l.ensures c.index_in-i.ensures c.requires.2 _ _ _ _ c.node_number-n.ensures c.hash_in-hash.ensures c.put_at.ensures
