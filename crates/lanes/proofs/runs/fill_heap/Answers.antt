-- The loops' invariant: from q on each hash is its children's parent, and the leaves are as they were.
-- Assumes nothing.
use Rattle.std.proofs.Common.{arith, ◌+◌, ◌-◌, ◌*◌, length, ◌≡◌, ap, ◌∙◌, ap₂}
use Rattle.sha256.specs.Sha256Laws.{pair_octets}
use Rattle.sha256.specs.Sha256.{pair_hash}
use Rattle.lanes.proofs.Filling.{heap_none, heap_more, heap_at, heap_again, heap_then, one_parent}
use Rattle.lanes.specs.HashesLaws.{parent_in}
use Rattle.lanes.specs.Hashes.{parent_of}
use Rattle.lanes.proofs.runs.fill_heap.Goals as goal

pub loop-q-init : goal.loop-q-init
loop-q-init c = (c.requires.1, omega arith, heap_none _ _ c.requires.0)

pub loop-q-preserved : goal.loop-q-preserved
loop-q-preserved c = let args = c.args in
    let l = c.loop-q in
    let q = l.q - 8 in (
      omega arith,
      omega arith,
      heap_more q 8 args.leaves args.heap.now l.heap _ c.pairs8-p.result (heap_at l.q (q + 8) l.invariant.2 (omega arith))
          (omega arith) (omega arith) c.pairs8-p.ensures.size
          (λ j h. c.pairs8-p.ensures.hashes j h ∙ parent_in l.heap q j (64 * q + 512 - 64 * q) h (omega arith)) c.put8.ensures,
    )

pub loop-n-init : goal.loop-n-init
loop-n-init c = let i = c.loop-q.invariant in (i.0, i.1, heap_again i.2)

pub loop-n-preserved : goal.loop-n-preserved
unfolding parent_of
loop-n-preserved c = let l = c.loop-n in
    let q = l.n - 1 in
    let h = c.pair-h.result in
    let e : h ≡ parent_of l.heap q = c.pair-h.ensures ∙ ap₂ pair_hash c.hash_at-l.ensures c.hash_at-r.ensures in
    let k : length h ≡ 32 = ap length e ∙ (pair_octets _ _).size in (
      omega arith,
      omega arith,
      heap_more q 1 c.args.leaves c.loop-q.heap l.heap _ h (heap_at l.n (q + 1) l.invariant.2 (omega arith))
          (omega arith) (omega arith) k (one_parent q l.heap h k e) c.put_hash.ensures,
    )

pub returns : goal.returns
returns c = heap_at c.loop-n.n 1 (heap_then c.loop-q.invariant.2 c.loop-n.invariant.2) (omega arith)
