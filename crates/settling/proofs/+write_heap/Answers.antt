use Rattle.std.proofs.Common.{arith, length}
use Rattle.heaps.specs.Heaps.{hash_in}
use Rattle.heaps.specs.HeapsLaws.{children_in}
use Rattle.settling.specs.HeapLaws.{fit_first, heap_wrote}
use Rattle.settling.specs.SubtreeLaws.{fit_left, fit_right, fit_length, up_small, wrote_zero}
use Rattle.settling.proofs.+write_heap.Goals as goal

pub returns-then-height-eq0 : goal.returns-then-height-eq0
returns-then-height-eq0 t c =
    let a = c.args in
    (wrote_zero a.store.now (hash_in a.heap.now) a.height a.top a.x _ _ _ c.if-height-eq0.true c.hash_at-h.ensures c.add_at.ensures.0 c.add_at.ensures.1).1

-- ---- above the leaves

pub write_heap-l-requires : goal.write_heap-l-requires
write_heap-l-requires t c =
    let a = c.args in let p = c.requires in
    let q = children_in (length a.heap.now) a.height a.x (omega (arith, c.if-height-eq0.false)) p.3 in
    (omega arith, (fit_first (fit_left p.0 c.if-height-eq0.false), p.1, omega (arith, p.2), q.1))

pub write_heap-r-requires : goal.write_heap-r-requires
write_heap-r-requires t c =
    let a = c.args in let p = c.requires in
    let q = children_in (length a.heap.now) a.height a.x (omega (arith, c.if-height-eq0.false)) p.3 in
    (omega arith, (fit_length (fit_first (fit_right p.0 c.if-height-eq0.false)) _ c.write_heap-l.auto.store, p.1, omega (arith, p.2), q.2))

-- what the children and the top add is less than the store's length
pub overflow_add-result : goal.overflow_add-result
overflow_add-result t c =
    let a = c.args in
    let few =
    up_small c.requires.0 c.if-height-eq0.false a.store.now c.write_heap-l.new.store c.write_heap-r.new.store (hash_in a.heap.now) a.x
    _ _ _ c.write_heap-l.ensures.0 c.write_heap-r.ensures.0 c.add_at-a.ensures.0 in
    omega (arith, few, c.well_formed)

pub overflow_add-result-2 : goal.overflow_add-result-2
overflow_add-result-2 t c =
    let a = c.args in
    let few =
    up_small c.requires.0 c.if-height-eq0.false a.store.now c.write_heap-l.new.store c.write_heap-r.new.store (hash_in a.heap.now) a.x
    _ _ _ c.write_heap-l.ensures.0 c.write_heap-r.ensures.0 c.add_at-a.ensures.0 in
    omega (arith, few, c.well_formed)

pub returns : goal.returns
returns t c =
    let a = c.args in let p = c.requires in let l = c.write_heap-l in let r = c.write_heap-r in
    heap_wrote a.heap.now p.1 a.height a.x p.2 p.3 a.store.now l.new.store r.new.store _ _ a.top _ _ _ c.if-height-eq0.false
    c.hash_at-h.ensures c.add_at-a.ensures.0 c.add_at-a.ensures.1 l.ensures r.ensures
