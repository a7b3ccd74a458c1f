use Rattle.std.proofs.Common.{arith, ◌≡◌}
use Rattle.settling.specs.Subtree.{run_leaf}
use Rattle.settling.specs.HeapLaws.{room_part}
use Rattle.settling.specs.SubtreeLaws.{up_small, wrote_up}
use Rattle.settling.proofs.+write_parts.Goals as goal

pub slice_bounds-write_part-end : goal.slice_bounds-write_part-end
slice_bounds-write_part-end t c = let q = room_part c.args.height c.if-height-le-ROOM_LAYERS.true in omega (arith, q.0, q.1, c.requires.1)

-- what the children and the top add is less than the store's length
pub overflow_add-t : goal.overflow_add-t
overflow_add-t t c =
    let a = c.args in let l = c.write_parts-l in let r = c.write_parts-r in
    let ne : a.height ≡ 0 → ⊥ = λ z. omega (arith, c.if-height-le-ROOM_LAYERS.false) in
    let few = up_small c.requires.0 ne a.store.now l.new.store r.new.store (run_leaf a.run.now a.pad) a.index _ _ _ l.ensures.1.0 r.ensures.1.0 c.add_at-a.ensures.0 in
    omega (arith, few, c.well_formed)

pub overflow_add-t-2 : goal.overflow_add-t-2
overflow_add-t-2 t c =
    let a = c.args in let l = c.write_parts-l in let r = c.write_parts-r in
    let ne : a.height ≡ 0 → ⊥ = λ z. omega (arith, c.if-height-le-ROOM_LAYERS.false) in
    let few = up_small c.requires.0 ne a.store.now l.new.store r.new.store (run_leaf a.run.now a.pad) a.index _ _ _ l.ensures.1.0 r.ensures.1.0 c.add_at-a.ensures.0 in
    omega (arith, few, c.well_formed)

pub returns : goal.returns
returns t c =
    let a = c.args in let l = c.write_parts-l in let r = c.write_parts-r in
    let ne : a.height ≡ 0 → ⊥ = λ z. omega (arith, c.if-height-le-ROOM_LAYERS.false) in
    wrote_up a.store.now (run_leaf a.run.now a.pad) a.height a.top a.index l.result.hash l.result.new l.new.store
    r.result.hash r.result.new r.new.store c.pair-v.result c.add_at-a.result c.add_at-a.new.store ne
    l.ensures r.ensures c.pair-v.ensures c.add_at-a.ensures.0 c.add_at-a.ensures.1
