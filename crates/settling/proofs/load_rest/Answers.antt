-- The loop's invariant: the first y leaves are in the heap.
-- Assumes nothing.
use Rattle.std.proofs.Common.{arith, ◌+◌, length, ◌≡◌, ap, sym, ◌∙◌}
use Rattle.tree.proofs.ValuesLaws.{leaf_octets}
use Rattle.settling.specs.HeapLaws.{loaded_one}
use Rattle.tree.specs.Values.{leaf_of}
use Rattle.settling.proofs.load_rest.Goals as goal

pub loop-y-init : goal.loop-y-init
loop-y-init c = c.requires.0

pub put_hash-requires : goal.put_hash-requires
put_hash-requires c = omega (arith, c.loop-y.invariant.size)

pub loop-y-preserved : goal.loop-y-preserved
loop-y-preserved c = let a = c.args in
    let l = c.loop-y in
    let h = c.leaf_of-h in
    loaded_one (leaf_of a.bytes.now) a.m a.from l.y l.heap _ h.result l.invariant (omega arith) (ap length h.ensures ∙ (leaf_octets a.bytes.now (a.from + l.y)).size) h.ensures c.put_hash.ensures

pub shape_of-heap : goal.shape_of-heap
shape_of-heap c = c.loop-y.invariant.size ∙ sym c.requires.0.size

pub returns : goal.returns
returns c = let e : c.loop-y.y ≡ c.args.m = omega (arith, c.loop-y.invariant.most) in rw e at c.loop-y.invariant
