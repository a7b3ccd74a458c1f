use Rattle.std.proofs.Common.{ap, ◌∙◌}
use Rattle.rounds1.specs.Block.{compress}
use Rattle.rounds1.specs.declared.Five.{Five}
use Rattle.padding.specs.Cutting.{over_message}
use Rattle.sha_1.specs.Sha1.{digest, sha1}
use Rattle.sha_1.proofs.hash.Goals as goal

pub returns : goal.returns
unfolding sha1
returns c = c.digest.ensures ∙ ap digest (c.over.ensures ∙ ap (λ (z : Five). over_message compress z c.args.bytes.now) c.start.ensures)
