use Rattle.std.proofs.Common.{arith, sym, ◌∙◌}
use Rattle.history.specs.Answers.{layer_size}
use Rattle.history.proofs.DecidingLaws.{last_put, last_none, layer_some}
use Rattle.history.proofs.Steps.{piece_layer_below}
use Rattle.history.proofs.put_last.Goals as goal

pub last_node-hash-requires : goal.last_node-hash-requires
last_node-hash-requires c = (c.requires.0.tail, omega (arith, c.piece_layer-p.ensures, piece_layer_below c.args.history.piece_length c.requires.0.pieces))

pub overflow_sub-at : goal.overflow_sub-at
overflow_sub-at c = omega (arith, c.layer_size-at.ensures, layer_some c.args.history (sym c.has_layer.ensures ∙ c.if-has_layer.true) c.requires.0)

pub put_hash-requires : goal.put_hash-requires
unfolding layer_size
put_hash-requires c = omega (arith, c.layer_size-at.ensures, layer_some c.args.history (sym c.has_layer.ensures ∙ c.if-has_layer.true) c.requires.0, c.requires.1)

pub returns-then-has_layer : goal.returns-then-has_layer
returns-then-has_layer c = last_put c.args.history c.args.layer.now c.put_hash.new.bytes c.last_node-hash.result c.piece_layer-p.result c.layer_size-at.result (sym c.has_layer.ensures ∙ c.if-has_layer.true) c.piece_layer-p.ensures c.last_node-hash.ensures c.layer_size-at.ensures c.put_hash.ensures

pub returns-else-has_layer : goal.returns-else-has_layer
returns-else-has_layer c = last_none c.args.history c.args.layer.now (sym c.has_layer.ensures ∙ c.if-has_layer.false)
