use Rattle.tree.proofs.Steps.{pad_first, pad_next}
use Rattle.tree.proofs.values.pad_value.Goals as goal

pub loop-i-init : goal.loop-i-init
loop-i-init c = pad_first

pub loop-i-preserved : goal.loop-i-preserved
loop-i-preserved c = pad_next _ _ _ c.loop-i.invariant c.pair-w.ensures
