use Rattle.sha256.specs.Sha256.{start}
use Rattle.sha256.proofs.start.Goals as goal

pub returns : goal.returns
unfolding start
returns c = rw c.start_words-w.ensures
