use Rattle.saved.proofs.Pairs.{claim_none, claim_one}
use Rattle.saved.proofs.chain.claim.Goals as goal

pub returns-then-not-two : goal.returns-then-not-two
returns-then-not-two c = claim_none _ _ _ _ _ (c.if-not-two.true) c.requires.0

pub returns : goal.returns
returns c = claim_one _ _ _ _ _ (c.if-not-two.false) c.make_next.ensures
