use Rattle.sha256.specs.Sha256.{digest}
use Rattle.sha256.proofs.Messages.{words_put}
use Rattle.sha256.proofs.digest.Goals as goal

pub returns : goal.returns
unfolding digest
returns c = let s = c.args.state in
    cc (words_put s.a s.b s.c s.d s.e s.f s.g s.h)
