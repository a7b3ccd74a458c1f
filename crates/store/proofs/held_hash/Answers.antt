-- Beside a refusal an array of 32 zeros is the zero hash.
use Rattle.std.proofs.Common.{ap, ◌∙◌, ℕ}
use Rattle.octets.specs.Octets.{zero_hash}
use Rattle.store.proofs.held_hash.Goals as goal

pub returns-in-Err : goal.returns-in-Err
unfolding zero_hash
returns-in-Err c = ap (λ (n : ℕ). record { number = n; hash = zero_hash }) c.from.ensures ∙ c.in-Err.ensures
