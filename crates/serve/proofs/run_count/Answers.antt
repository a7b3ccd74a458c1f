-- A shift of 1 by no more than a tree is tall loses nothing.
use Rattle.serve.proofs.Answers.{count_of}
use Rattle.serve.proofs.run_count.Goals as goal

pub returns : goal.returns
returns c = count_of c.args.k c.requires
