use Rattle.std.proofs.Common.{arith}
use Rattle.saved.proofs.Saving.{held_passed, held_room, held_put, node_below}
use Rattle.saved.proofs.save.put_held.Goals as goal

pub returns-then-not-held : goal.returns-then-not-held
returns-then-not-held c = held_passed _ _ _ _ _ _ _ c.held_in-held.ensures (c.if-not-held.true)

pub hash_of-hash-requires : goal.hash_of-hash-requires
hash_of-hash-requires c = omega (arith, node_below _ _ _ _ c.requires.2 c.node_number-n.ensures, c.requires.3)

pub put_record-requires : goal.put_record-requires
put_record-requires c = omega (arith, c.requires.4, held_room _ _ _ _ _ c.held_in-held.ensures (c.if-not-held.false))

pub returns : goal.returns
returns c = held_put _ _ _ _ _ _ _ _ _ _ c.held_in-held.ensures (c.if-not-held.false) c.node_number-n.ensures c.hash_of-hash.ensures c.put_record.ensures
