use Rattle.std.proofs.Common.{arith, ℕ, ◌*◌, ap, sym, ◌∙◌}
use Rattle.history.proofs.DecidingLaws.{pieces_most, bytes_some, bytes_none}
use Rattle.history.proofs.layer_size.Goals as goal

pub overflow_mul-result : goal.overflow_mul-result
overflow_mul-result c = omega (arith, c.piece_count.ensures, pieces_most c.args.n c.args.plen, c.requires)

pub returns-then-has_layer : goal.returns-then-has_layer
returns-then-has_layer c = ap (λ (c : ℕ). 32 * c) c.piece_count.ensures ∙ bytes_some c.args.n c.args.plen (sym c.has_layer.ensures ∙ c.if-has_layer.true)

pub returns : goal.returns
returns c = bytes_none c.args.n c.args.plen (sym c.has_layer.ensures ∙ c.if-has_layer.false)
