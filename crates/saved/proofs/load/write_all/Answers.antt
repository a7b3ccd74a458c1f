use Rattle.std.proofs.Common.{arith, rules}
use Rattle.saved.proofs.SoundLaws.{sound_formed}
use Rattle.saved.proofs.Answers.{whole_here, sized_here, form_here, places_ready, marks_here, all_written}
use Rattle.saved.proofs.load.write_all.Goals as goal

pub number_at-n-requires : goal.number_at-n-requires
number_at-n-requires c = let w = whole_here c.args.store.now c.args.bytes.now c.requires.0 (sound_formed _ c.requires.1) in (omega arith, omega arith)

pub number_at-plen-requires : goal.number_at-plen-requires
number_at-plen-requires c = let w = whole_here c.args.store.now c.args.bytes.now c.requires.0 (sound_formed _ c.requires.1) in (omega arith, omega arith)

pub hash_at-root-requires : goal.hash_at-root-requires
hash_at-root-requires c = let w = whole_here c.args.store.now c.args.bytes.now c.requires.0 (sound_formed _ c.requires.1) in omega arith

pub place_count-p-requires : goal.place_count-p-requires
place_count-p-requires c = sized_here c.args.store.now c.args.bytes.now c.requires.0 (sound_formed _ c.requires.1)

pub put_places-requires : goal.put_places-requires
put_places-requires c = places_ready c.args.store.now c.args.bytes.now c.requires.0 (sound_formed _ c.requires.1) _ _ _ _ c.number_at-n.ensures.0 c.number_at-plen.ensures.0 c.hash_at-root.ensures c.open.ensures.1 _ _ _ c.block_count-c.ensures c.height-h.ensures c.place_count-p.ensures

pub mark_count-m-requires : goal.mark_count-m-requires
mark_count-m-requires c = omega (arith, (form_here c.args.store.now c.args.bytes.now c.requires.0 (sound_formed _ c.requires.1)).size)

pub overflow_mul-at : goal.overflow_mul-at
overflow_mul-at c = let w = (form_here c.args.store.now c.args.bytes.now c.requires.0 (sound_formed _ c.requires.1)).size in let e = c.place_count-p.ensures in search rules

pub overflow_add-at : goal.overflow_add-at
overflow_add-at c = let w = (form_here c.args.store.now c.args.bytes.now c.requires.0 (sound_formed _ c.requires.1)).size in let e = c.place_count-p.ensures in search rules

pub set_marks-requires : goal.set_marks-requires
set_marks-requires c = marks_here c.args.store.now c.args.bytes.now c.requires.0 (sound_formed _ c.requires.1) _ _ _ _ c.number_at-n.ensures.0 c.number_at-plen.ensures.0 c.hash_at-root.ensures c.open.ensures.1 _ _ _ c.block_count-c.ensures c.height-h.ensures c.place_count-p.ensures _ c.put_places.ensures _ c.mark_count-m.ensures.0

pub returns : goal.returns
returns c = all_written c.args.store.now c.args.bytes.now c.requires.0 (sound_formed _ c.requires.1) _ _ _ _ c.number_at-n.ensures.0 c.number_at-plen.ensures.0 c.hash_at-root.ensures c.open.ensures.1 _ _ _ c.block_count-c.ensures c.height-h.ensures c.place_count-p.ensures _ c.put_places.ensures _ c.mark_count-m.ensures.0 _ c.set_marks.ensures
