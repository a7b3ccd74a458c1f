use Rattle.std.proofs.Common.{arith, sym, ◌∙◌}
use Rattle.history.proofs.AnswersLaws.{possible_says}
use Rattle.history.proofs.DecidingLaws.{number_impossible, number_long, number_room, number_done}
use Rattle.history.proofs.check_burst.Goals as goal

pub returns-then-not-is_possible : goal.returns-then-not-is_possible
returns-then-not-is_possible c = number_impossible c.args.history c.args.k c.args.m (sym c.is_possible.ensures ∙ c.if-not-is_possible.true)

pub overflow_sub-left : goal.overflow_sub-left
overflow_sub-left c = (possible_says c.args.history (sym c.is_possible.ensures ∙ c.if-not-is_possible.false)).short

pub returns-then-k-left : goal.returns-then-k-left
returns-then-k-left c = number_long c.args.history c.args.k c.args.m (sym c.is_possible.ensures ∙ c.if-not-is_possible.false) (omega (arith, (possible_says c.args.history (sym c.is_possible.ensures ∙ c.if-not-is_possible.false)).short, c.if-k-left.true))

pub no_room-requires : goal.no_room-requires
no_room-requires c = omega (arith, (possible_says c.args.history (sym c.is_possible.ensures ∙ c.if-not-is_possible.false)).short, c.if-k-left.false)

pub returns-then-no_room : goal.returns-then-no_room
returns-then-no_room c = number_room c.args.history c.args.k c.args.m (sym c.is_possible.ensures ∙ c.if-not-is_possible.false) (omega (arith, (possible_says c.args.history (sym c.is_possible.ensures ∙ c.if-not-is_possible.false)).short, c.if-k-left.false)) (sym c.no_room.ensures ∙ c.if-no_room.true)

pub returns : goal.returns
returns c = number_done c.args.history c.args.k c.args.m (sym c.is_possible.ensures ∙ c.if-not-is_possible.false) (omega (arith, (possible_says c.args.history (sym c.is_possible.ensures ∙ c.if-not-is_possible.false)).short, c.if-k-left.false)) (sym c.no_room.ensures ∙ c.if-no_room.false)
