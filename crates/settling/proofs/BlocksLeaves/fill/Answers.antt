-- The leaves are loaded, and the heap over them filled.
-- Assumes nothing.
use Rattle.settling.specs.HeapLaws.{loaded_worked}
use Rattle.settling.proofs.BlocksLeaves.fill.Goals as goal

pub returns : goal.returns
returns c = loaded_worked _ c.args.m c.args.j _ _ c.load_rest.ensures c.fill_heap.ensures
