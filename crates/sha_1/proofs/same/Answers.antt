use Rattle.sha_1.proofs.same.Goals as goal

pub returns : goal.returns
returns c = c.same.ensures
