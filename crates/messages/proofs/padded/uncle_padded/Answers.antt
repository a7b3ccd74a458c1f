use Rattle.messages.proofs.Padding.{uncle_free, uncle_looked}
use Rattle.messages.proofs.padded.uncle_padded.Goals as goal

pub returns-then-y-c : goal.returns-then-y-c
returns-then-y-c c = uncle_free c.args.hashes.now c.args.blocks c.args.number c.args.layer c.args.index c.covering-c.result c.sibling-y.result c.covering-c.ensures c.sibling-y.ensures c.if-y-c.true

pub returns : goal.returns
returns c = uncle_looked c.args.hashes.now c.args.blocks c.args.number c.args.layer c.args.index c.covering-c.result c.sibling-y.result c.covering-c.ensures c.sibling-y.ensures c.hash_at.result c.args.pad c.same.result c.if-y-c.false c.hash_at.ensures c.requires.2 c.same.ensures
