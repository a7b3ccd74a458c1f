use Rattle.std.proofs.Common.{arith, sym, ◌∙◌}
use Rattle.history.proofs.AnswersLaws.{possible_says}
use Rattle.history.proofs.DecidingLaws.{end_impossible, end_room, end_done}
use Rattle.history.proofs.check_end.Goals as goal

pub returns-then-not-is_possible : goal.returns-then-not-is_possible
returns-then-not-is_possible c = end_impossible c.args.history c.args.m (sym c.is_possible.ensures ∙ c.if-not-is_possible.true)

pub layer_size-requires : goal.layer_size-requires
layer_size-requires c = (possible_says c.args.history (sym c.is_possible.ensures ∙ c.if-not-is_possible.false)).short

pub returns-then-m-layer_size : goal.returns-then-m-layer_size
returns-then-m-layer_size c = end_room c.args.history c.args.m (sym c.is_possible.ensures ∙ c.if-not-is_possible.false) (omega (arith, c.layer_size.ensures, c.if-m-layer_size.true))

pub returns : goal.returns
returns c = end_done c.args.history c.args.m (sym c.is_possible.ensures ∙ c.if-not-is_possible.false) (omega (arith, c.layer_size.ensures, c.if-m-layer_size.false))
