use Rattle.sha_1.specs.Sha1.{digest}
use Rattle.sha_1.proofs.Messages.{words_put}
use Rattle.sha_1.proofs.digest.Goals as goal

pub returns : goal.returns
unfolding digest
returns c = let s = c.args.state in
    cc (words_put s.a s.b s.c s.d s.e)
