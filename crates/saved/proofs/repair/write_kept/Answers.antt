use Rattle.std.proofs.Common.{arith}
use Rattle.saved.proofs.SoundLaws.{rooted_formed}
use Rattle.saved.proofs.Answers.{whole_here, sized_here, rooted_some, kept_ready, kept_all}
use Rattle.saved.proofs.repair.write_kept.Goals as goal

pub number_at-n-requires : goal.number_at-n-requires
number_at-n-requires c = let w = whole_here c.args.store.now c.args.bytes.now c.requires.0 (rooted_formed _ c.requires.1) in (omega arith, omega arith)

pub number_at-plen-requires : goal.number_at-plen-requires
number_at-plen-requires c = let w = whole_here c.args.store.now c.args.bytes.now c.requires.0 (rooted_formed _ c.requires.1) in (omega arith, omega arith)

pub hash_at-root-requires : goal.hash_at-root-requires
hash_at-root-requires c = let w = whole_here c.args.store.now c.args.bytes.now c.requires.0 (rooted_formed _ c.requires.1) in omega arith

pub place_count-p-requires : goal.place_count-p-requires
place_count-p-requires c = sized_here c.args.store.now c.args.bytes.now c.requires.0 (rooted_formed _ c.requires.1)

pub overflow_sub-below : goal.overflow_sub-below
overflow_sub-below c = omega (arith, rooted_some _ c.requires.1, c.place_count-p.ensures)

pub mend-kept-requires : goal.mend-kept-requires
mend-kept-requires c = kept_ready c.args.store.now c.args.bytes.now c.requires.0 (rooted_formed _ c.requires.1) _ _ _ _ c.number_at-n.ensures.0 c.number_at-plen.ensures.0 c.hash_at-root.ensures c.open.ensures.1 _ _ _ c.block_count-c.ensures c.height-h.ensures c.place_count-p.ensures

pub returns : goal.returns
returns c = kept_all c.args.store.now c.args.bytes.now c.requires.0 (rooted_formed _ c.requires.1) _ _ _ _ c.number_at-n.ensures.0 c.number_at-plen.ensures.0 c.hash_at-root.ensures c.open.ensures.1 _ _ _ c.block_count-c.ensures c.height-h.ensures c.place_count-p.ensures (rooted_some _ c.requires.1) _ _ c.mend-kept.ensures.0 c.mend-kept.ensures.1 c.mend-kept.ensures.2
