-- The first hash of the heap is the node above its leaves.
-- Assumes nothing.
use Rattle.std.proofs.Common.{◌∙◌}
use Rattle.heaps.specs.HeapsLaws.{heap_top}
use Rattle.heaps.proofs.top.Goals as goal

pub returns : goal.returns
returns c = λ leaf k o e.
    let w = c.work.ensures leaf o in
    c.hash_at.ensures ∙ heap_top leaf k c.args.index _ (rw e at w)
