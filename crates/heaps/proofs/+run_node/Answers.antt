use Rattle.std.proofs.Common.{arith, length, ◌∙◌, ◌*◌, ◌^◌}
use Rattle.tree.proofs.ValuesLaws.{node_pair}
use Rattle.heaps.specs.HeapsLaws.{front_length}
use Rattle.heaps.proofs.Steps.{node_past, heap_fits, halves_fit}
use Rattle.heaps.proofs.+run_node.Goals as goal

pub returns-then-j-c : goal.returns-then-j-c
returns-then-j-c t c = node_past c.args.run.now c.args.pad _ c.args.k c.args.j c.covering-c.result c.covering-c.ensures c.if-j-c.true c.raise.ensures

pub overflow_shl-m : goal.overflow_shl-m
overflow_shl-m t c = let a = c.args in
    let q = heap_fits (length a.room.now) a.e a.k a.j c.requires.0 c.if-k-e.true c.requires.1 in
    omega (arith, q.0)

pub overflow_mul-size : goal.overflow_mul-size
overflow_mul-size t c = let a = c.args in
    let q = heap_fits (length a.room.now) a.e a.k a.j c.requires.0 c.if-k-e.true c.requires.1 in
    omega (arith, q.1, q.3)

pub slice_bounds-top-end : goal.slice_bounds-top-end
slice_bounds-top-end t c = let a = c.args in
    let q = heap_fits (length a.room.now) a.e a.k a.j c.requires.0 c.if-k-e.true c.requires.1 in
    omega (arith, q.1, q.3)

pub top-requires : goal.top-requires
top-requires t c = let a = c.args in
    let q = heap_fits (length a.room.now) a.e a.k a.j c.requires.0 c.if-k-e.true c.requires.1 in
    rw q.1 (front_length a.room.now (64 * 2 ^ a.k) q.3, q.2, q.4)

pub returns-then-k-e : goal.returns-then-k-e
returns-then-k-e t c = let a = c.args in
    let q = heap_fits (length a.room.now) a.e a.k a.j c.requires.0 c.if-k-e.true c.requires.1 in
    λ leaf o. c.top.ensures leaf a.k o q.1

pub overflow_mul-j2 : goal.overflow_mul-j2
overflow_mul-j2 t c = omega (arith, halves_fit c.args.k c.args.j (omega arith) c.requires.1)

pub overflow_add-j3 : goal.overflow_add-j3
overflow_add-j3 t c = omega (arith, halves_fit c.args.k c.args.j (omega arith) c.requires.1)

pub run_node-l-requires : goal.run_node-l-requires
run_node-l-requires t c = let p = c.requires in
    let h = halves_fit c.args.k c.args.j (omega arith) p.1 in
    (omega (arith, c.decreases), (p.0, h.1))

pub run_node-r-requires : goal.run_node-r-requires
run_node-r-requires t c = let p = c.requires in
    let h = halves_fit c.args.k c.args.j (omega arith) p.1 in
    (omega (arith, c.decreases), (c.run_node-l.auto.room ∙ p.0, h.2))

pub returns : goal.returns
returns t c = let a = c.args in
    λ leaf o. node_pair leaf _ _ _ a.k a.j (λ z. omega arith) (c.run_node-l.ensures leaf o) (c.run_node-r.ensures leaf o) c.pair.ensures
