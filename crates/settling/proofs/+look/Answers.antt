use Rattle.std.proofs.Common.{arith, ◌≡◌, refl, ◌∙◌, ◌*◌, ◌^◌}
use Rattle.heaps.specs.HeapsLaws.{front_length}
use Rattle.settling.specs.HeapLaws.{room_part, heaped_by, heaped_high}
use Rattle.settling.specs.SubtreeLaws.{fit_self, fit_left, fit_right, looked_up}
use Rattle.settling.proofs.+look.Goals as goal

pub overflow_shl-m : goal.overflow_shl-m
overflow_shl-m g t c = omega (arith, c.if-height-le-ROOM_LAYERS.true)

pub overflow_mul-size : goal.overflow_mul-size
overflow_mul-size g t c = let q = room_part c.args.height c.if-height-le-ROOM_LAYERS.true in omega (arith, q.0, q.1)

pub slice_bounds-look_leaves-end : goal.slice_bounds-look_leaves-end
slice_bounds-look_leaves-end g t c = let q = room_part c.args.height c.if-height-le-ROOM_LAYERS.true in omega (arith, q.0, q.1, c.requires.1)

pub look_leaves-requires : goal.look_leaves-requires
look_leaves-requires g t c = let a = c.args in
    let p = c.requires in
    let q = room_part a.height c.if-height-le-ROOM_LAYERS.true in
    rw q.0 (p.0, refl, front_length a.room.now (64 * 2 ^ a.height) (omega (arith, q.1, p.1)))

pub returns-then-height-le-ROOM_LAYERS : goal.returns-then-height-le-ROOM_LAYERS
returns-then-height-le-ROOM_LAYERS g t c = let a = c.args in
    let e = c.look_leaves.ensures in
    (e.0, e.1, heaped_by (g.L.Leaves.leaf a.leaves.now) a.height a.index _ _ _ (room_part a.height c.if-height-le-ROOM_LAYERS.true).0 e.2)

pub overflow_mul-n2 : goal.overflow_mul-n2
overflow_mul-n2 g t c = let ne : c.args.height ≡ 0 → ⊥ = λ z. omega (arith, c.if-height-le-ROOM_LAYERS.false) in omega (arith, c.requires.0.index, fit_self (fit_right c.requires.0 ne))

pub overflow_mul-j2 : goal.overflow_mul-j2
overflow_mul-j2 g t c = let ne : c.args.height ≡ 0 → ⊥ = λ z. omega (arith, c.if-height-le-ROOM_LAYERS.false) in omega (arith, c.requires.0.index, fit_self (fit_right c.requires.0 ne))

pub overflow_add-n3 : goal.overflow_add-n3
overflow_add-n3 g t c = let ne : c.args.height ≡ 0 → ⊥ = λ z. omega (arith, c.if-height-le-ROOM_LAYERS.false) in omega (arith, c.requires.0.index, fit_self (fit_right c.requires.0 ne))

pub overflow_add-j3 : goal.overflow_add-j3
overflow_add-j3 g t c = let ne : c.args.height ≡ 0 → ⊥ = λ z. omega (arith, c.if-height-le-ROOM_LAYERS.false) in omega (arith, c.requires.0.index, fit_self (fit_right c.requires.0 ne))

pub look-l-requires : goal.look-l-requires
look-l-requires g t c = let ne : c.args.height ≡ 0 → ⊥ = λ z. omega (arith, c.if-height-le-ROOM_LAYERS.false) in λ κs h. (omega arith, (h, (fit_left c.requires.0 ne, c.requires.1)))

pub look-r-requires : goal.look-r-requires
look-r-requires g t c = let ne : c.args.height ≡ 0 → ⊥ = λ z. omega (arith, c.if-height-le-ROOM_LAYERS.false) in λ κs h. (omega arith, (h, (fit_right c.requires.0 ne, c.look-l.auto.room ∙ c.requires.1)))

pub agrees_at-o-requires : goal.agrees_at-o-requires
agrees_at-o-requires g t c = fit_self c.requires.0

pub returns : goal.returns
returns g t c = let ne : c.args.height ≡ 0 → ⊥ = λ z. omega (arith, c.if-height-le-ROOM_LAYERS.false) in let a = c.args in
    let l = c.look-l.ensures in
    let r = c.look-r.ensures in
    let d = looked_up a.store.now (g.L.Leaves.leaf a.leaves.now) a.height a.top a.index c.look-l.result.hash c.look-l.result.agrees c.look-r.result.hash c.look-r.result.agrees c.pair-h.result c.agrees_at-o.result c.all_three-all.result
    ne (l.0, l.1) (r.0, r.1) c.pair-h.ensures c.agrees_at-o.ensures c.all_three-all.ensures in
    (d.0, d.1, heaped_high (g.L.Leaves.leaf a.leaves.now) a.height a.index _ (λ h. omega (arith, h, c.if-height-le-ROOM_LAYERS.false)))
