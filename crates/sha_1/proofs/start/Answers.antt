use Rattle.std.proofs.Common.{refl}
use Rattle.sha_1.specs.Sha1.{start}
use Rattle.sha_1.proofs.start.Goals as goal

pub returns : goal.returns
unfolding start
returns c = refl
