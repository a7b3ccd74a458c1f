use Rattle.saved.proofs.Saving.{one_from}
use Rattle.saved.proofs.save.one_more.Goals as goal

pub returns : goal.returns
returns c = one_from _ _ _ c.from.ensures
