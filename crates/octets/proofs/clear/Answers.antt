use Rattle.std.proofs.Common.{List, ℕ, ◌++◌, drop, replicate, ap, ◌∙◌, arith, length-take-le}
use Rattle.octets.specs.Octets.{zeroed}
use Rattle.octets.proofs.clear.Goals as goal

pub returns : goal.returns
unfolding zeroed
returns c = ap (λ (t : List ℕ). t ++ drop c.args.count c.args.bytes.now)
    (c.fill.ensures.after (λ y e. e) ∙ ap (λ (n : ℕ). replicate n 0) (length-take-le c.args.count c.args.bytes.now (omega arith)))
