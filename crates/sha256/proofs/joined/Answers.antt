use Rattle.std.proofs.Common.{replicate, List, ℕ, refl, ap, ◌∙◌}
use Rattle.sha256.proofs.Messages.{joined_law}
use Rattle.octets.specs.Octets.{pasted}
use Rattle.sha256.proofs.joined.Goals as goal

pub returns : goal.returns
returns c = c.put_hash-2.ensures ∙ ap (λ (x : List ℕ). pasted x 32 c.args.right) c.put_hash.ensures
    ∙ joined_law (replicate 64 0) c.args.left c.args.right refl c.well_formed.0.1.0.1 c.well_formed.1.0.1.0.1
