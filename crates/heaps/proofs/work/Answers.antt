-- The leaves are loaded, and the heap over them filled.
-- Assumes nothing.
use Rattle.heaps.proofs.Steps.{worked}
use Rattle.heaps.proofs.work.Goals as goal

pub returns : goal.returns
returns c = λ leaf o. worked leaf c.args.leaves c.args.index _ _ c.fill_heap.ensures (c.load.ensures.1 leaf o)
