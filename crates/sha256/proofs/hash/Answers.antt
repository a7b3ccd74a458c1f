use Rattle.std.proofs.Common.{List, ℕ, ap, ap₂, ◌∙◌}
use Rattle.rounds.specs.Block.{compress}
use Rattle.rounds.specs.declared.State.{State}
use Rattle.padding.specs.Cutting.{over_message}
use Rattle.sha256.specs.Sha256.{digest, sha256}
use Rattle.sha256.proofs.hash.Goals as goal

pub returns : goal.returns
unfolding sha256
returns c = c.digest.ensures ∙ ap digest (c.over.ensures ∙ ap₂ (λ (k : List ℕ) (z : State). over_message (compress k) z c.args.bytes.now) c.round_words-k.ensures c.start.ensures)
