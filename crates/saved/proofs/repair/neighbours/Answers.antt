use Rattle.std.proofs.Common.{arith}
use Rattle.saved.proofs.Answers.{all_shifted, near_apart, near_odd, near_low}
use Rattle.saved.proofs.repair.neighbours.Goals as goal

pub overflow_add-left : goal.overflow_add-left
overflow_add-left c = omega (arith, c.rank_in-left.ensures.1, all_shifted _ c.requires.0)

pub returns-then-right-left : goal.returns-then-right-left
returns-then-right-left c = near_apart _ _ _ _ _ c.rank_in-left.ensures.0 c.rank_in-right.ensures.0 c.if-right-left.true

pub returns-then-i : goal.returns-then-i
returns-then-i c = near_odd _ _ _ _ _ c.rank_in-left.ensures.0 c.rank_in-right.ensures.0 c.if-right-left.false _ c.index_in-i.ensures (λ e. c.if-i.true (omega (arith, e)))

pub returns : goal.returns
returns c = near_low _ _ _ _ _ c.rank_in-left.ensures.0 c.rank_in-right.ensures.0 c.if-right-left.false _ c.index_in-i.ensures c.if-i.false _ c.layer_in-l.ensures
