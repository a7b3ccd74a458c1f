use Rattle.std.proofs.Common.{arith, length}
use Rattle.heaps.specs.Heaps.{hash_in}
use Rattle.heaps.specs.HeapsLaws.{children_in}
use Rattle.settling.specs.HeapLaws.{hash_within, fit_first, heap_looked}
use Rattle.settling.specs.SubtreeLaws.{fit_self, fit_left, fit_right, looked_zero}
use Rattle.settling.proofs.+look_heap.Goals as goal

pub overflow_mul-x : goal.overflow_mul-x
overflow_mul-x t c = let w = hash_within _ c.args.height c.args.x c.requires.3 in omega arith

pub hash_at-h-requires : goal.hash_at-h-requires
hash_at-h-requires t c = (omega arith, hash_within _ c.args.height c.args.x c.requires.3)

pub agrees_at-o-requires : goal.agrees_at-o-requires
agrees_at-o-requires t c = fit_self c.requires.0

pub returns-then-height-eq0 : goal.returns-then-height-eq0
returns-then-height-eq0 t c = let a = c.args in (looked_zero a.store.now (hash_in a.heap.now) a.height a.top a.x _ _ c.if-height-eq0.true c.hash_at-h.ensures c.agrees_at-o.ensures).1

pub overflow_mul-n2 : goal.overflow_mul-n2
overflow_mul-n2 t c = let a = c.args in
    let p = c.requires in
    let q = children_in (length a.heap.now) a.height a.x (omega (arith, c.if-height-eq0.false)) p.3 in
    omega (arith, q.0, fit_self (fit_right p.0 c.if-height-eq0.false))

pub overflow_mul-x2 : goal.overflow_mul-x2
overflow_mul-x2 t c = let a = c.args in
    let p = c.requires in
    let q = children_in (length a.heap.now) a.height a.x (omega (arith, c.if-height-eq0.false)) p.3 in
    omega (arith, q.0, fit_self (fit_right p.0 c.if-height-eq0.false))

pub overflow_add-n3 : goal.overflow_add-n3
overflow_add-n3 t c = let a = c.args in
    let p = c.requires in
    let q = children_in (length a.heap.now) a.height a.x (omega (arith, c.if-height-eq0.false)) p.3 in
    omega (arith, q.0, fit_self (fit_right p.0 c.if-height-eq0.false))

pub overflow_add-x3 : goal.overflow_add-x3
overflow_add-x3 t c = let a = c.args in
    let p = c.requires in
    let q = children_in (length a.heap.now) a.height a.x (omega (arith, c.if-height-eq0.false)) p.3 in
    omega (arith, q.0, fit_self (fit_right p.0 c.if-height-eq0.false))

pub look_heap-l-requires : goal.look_heap-l-requires
look_heap-l-requires t c = let a = c.args in
    let p = c.requires in
    let q = children_in (length a.heap.now) a.height a.x (omega (arith, c.if-height-eq0.false)) p.3 in
    (omega arith, (fit_first (fit_left p.0 c.if-height-eq0.false), p.1, omega (arith, p.2), q.1))

pub look_heap-r-requires : goal.look_heap-r-requires
look_heap-r-requires t c = let a = c.args in
    let p = c.requires in
    let q = children_in (length a.heap.now) a.height a.x (omega (arith, c.if-height-eq0.false)) p.3 in
    (omega arith, (fit_first (fit_right p.0 c.if-height-eq0.false), p.1, omega (arith, p.2), q.2))

pub returns : goal.returns
returns t c = let a = c.args in
    let p = c.requires in
    heap_looked a.heap.now p.1 a.height a.x p.2 p.3 a.store.now _ a.top _ _ _ _ c.if-height-eq0.false c.hash_at-h.ensures c.agrees_at-o.ensures c.look_heap-l.ensures c.look_heap-r.ensures c.all_three.ensures
