use Rattle.std.proofs.Common.{arith, refl}
use Rattle.saved.proofs.chain.claimed.Goals as goal

pub make_ready-requires : goal.make_ready-requires
make_ready-requires c = (refl, refl, omega arith, c.requires.1)

pub claim_all-n-requires : goal.claim_all-n-requires
claim_all-n-requires c = (c.requires.0, c.requires.1, c.requires.2, c.pad_values-pads.ensures, c.make_ready.ensures)

pub returns : goal.returns
returns c = (c.claim_all-n.ensures.0, c.claim_all-n.ensures.1)
