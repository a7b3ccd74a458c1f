-- The heap over a run.
-- Assumes nothing.
use Rattle.settling.specs.Subtree.{run_leaf}
use Rattle.settling.specs.HeapLaws.{over_run}
use Rattle.settling.proofs.RunLeaves.fill.Goals as goal

pub returns : goal.returns
returns c = let l = c.args.self.now in c.work.ensures (run_leaf l.run.now l.pad) (over_run l.run.now l.pad)
