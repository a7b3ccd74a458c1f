use Rattle.saved.proofs.Saving.{mark_set}
use Rattle.saved.proofs.load.set_mark.Goals as goal

pub returns : goal.returns
returns c = mark_set _ _ _ c.requires.0 c.requires.1
