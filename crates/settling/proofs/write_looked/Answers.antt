-- In one heap the room still has it; above, it is worked out again.
-- Assumes nothing.
use Rattle.std.proofs.Common.{arith, ap, ◌∙◌}
use Rattle.cells.specs.Entries.{fresh, put_all}
use Rattle.settling.specs.Subtree.{run_leaf}
use Rattle.heaps.specs.HeapsLaws.{worked_parents}
use Rattle.settling.specs.HeapLaws.{fit_leaves, fit_first, heap_whole, worked_top, worked_subtree, room_part, heaped_front}
use Rattle.settling.proofs.write_looked.Goals as goal

pub overflow_mul-size : goal.overflow_mul-size
overflow_mul-size c = let q = room_part c.args.height c.if-height-le-ROOM_LAYERS.true in omega (arith, q.0, q.1)

pub slice_bounds-heap-end : goal.slice_bounds-heap-end
slice_bounds-heap-end c = let q = room_part c.args.height c.if-height-le-ROOM_LAYERS.true in omega (arith, q.0, q.1, c.requires.1)

pub hash_at-hash-requires : goal.hash_at-hash-requires
hash_at-hash-requires c = let a = c.args in
    let p = c.requires in
    let e = (room_part a.height c.if-height-le-ROOM_LAYERS.true).0 in
    let w = heaped_front (run_leaf a.run.now a.pad) a.height a.index a.room.now _ p.2 c.if-height-le-ROOM_LAYERS.true e in
    let q = fit_leaves p.0 _ e in
    omega (arith, w.size, q.0)

pub write_heap-new-requires : goal.write_heap-new-requires
write_heap-new-requires c = let a = c.args in
    let p = c.requires in
    let e = (room_part a.height c.if-height-le-ROOM_LAYERS.true).0 in
    let leaf = run_leaf a.run.now a.pad in
    let w = heaped_front leaf a.height a.index a.room.now _ p.2 c.if-height-le-ROOM_LAYERS.true e in
    (fit_first p.0, worked_parents leaf _ a.index _ w, omega arith, heap_whole _ a.height _ e w.size)

pub returns-then-height-le-ROOM_LAYERS : goal.returns-then-height-le-ROOM_LAYERS
returns-then-height-le-ROOM_LAYERS c = let a = c.args in
    let p = c.requires in
    let e = (room_part a.height c.if-height-le-ROOM_LAYERS.true).0 in
    let leaf = run_leaf a.run.now a.pad in
    let w = heaped_front leaf a.height a.index a.room.now _ p.2 c.if-height-le-ROOM_LAYERS.true e in
    let d = worked_subtree leaf a.height a.index _ _ a.top e w in
    let h = c.write_heap-new.ensures in (
      c.hash_at-hash.ensures ∙ worked_top leaf a.height a.index _ _ e w,
      (h.0 ∙ ap (fresh a.store.now) d, h.1 ∙ ap (put_all a.store.now) d),
    )
