use Rattle.saved.proofs.Pairs.{ready_same}
use Rattle.saved.proofs.chain.make_next.Goals as goal

pub returns-then-next-ne0 : goal.returns-then-next-ne0
returns-then-next-ne0 c = ready_same _ _ _ _ c.requires.0 c.if-next-ne0.true

pub make_ready-requires : goal.make_ready-requires
make_ready-requires c = (c.requires.0.size, c.if-next-ne0.false, c.requires.1, c.requires.2)

pub returns : goal.returns
returns c = c.make_ready.ensures
