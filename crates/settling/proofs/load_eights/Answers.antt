-- The loop's invariant: the first 8 * i leaves are in the heap.
-- Assumes nothing.
use Rattle.std.proofs.Common.{arith, ◌≡◌, ◌/◌, ◌+◌, ◌-◌, ◌*◌, sym, ◌∙◌}
use Rattle.settling.specs.HeapLaws.{loaded_none, loaded_more, eight_leaves}
use Rattle.tree.specs.Values.{leaf_of}
use Rattle.settling.proofs.load_eights.Goals as goal

pub loop-i-init : goal.loop-i-init
loop-i-init c = loaded_none _ _ _ _ c.requires.0

pub shape_of-heap-then-blocks-from : goal.shape_of-heap-then-blocks-from
shape_of-heap-then-blocks-from c = c.loop-i.invariant.size ∙ sym c.requires.0

pub returns-then-blocks-from : goal.returns-then-blocks-from
returns-then-blocks-from c = c.loop-i.invariant

pub put8-requires : goal.put8-requires
put8-requires c = omega (arith, c.loop-i.invariant.size)

pub loop-i-preserved : goal.loop-i-preserved
loop-i-preserved c = let a = c.args in
    let l = c.loop-i in
    let h = c.hash8-p in
    let e : 8 * (l.i + 1) ≡ 8 * l.i + 8 = omega arith in
    rw e (loaded_more (leaf_of a.bytes.now) a.m a.from (8 * l.i) 8 l.heap _ h.result l.invariant (omega arith) h.ensures.size
    (λ x g. h.ensures.hashes x g ∙ eight_leaves a.bytes.now (a.from + (8 * l.i)) x (16384 * (a.from + (8 * l.i)) + 131072 - 16384 * (a.from + (8 * l.i))) g (omega arith) (omega (arith, c.if-blocks-from.false))) c.put8.ensures)

pub shape_of-heap : goal.shape_of-heap
shape_of-heap c = c.loop-i.invariant.size ∙ sym c.requires.0

pub returns : goal.returns
returns c =
    let e : c.loop-i.i ≡ c.args.m / 8 = omega arith in
    rw e at c.loop-i.invariant
