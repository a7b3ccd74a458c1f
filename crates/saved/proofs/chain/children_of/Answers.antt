use Rattle.std.proofs.Common.{arith}
use Rattle.saved.proofs.Answers.{place_in_tree, all_shifted, children_not, children_is}
use Rattle.saved.proofs.chain.children_of.Goals as goal

pub rank_in-left-requires : goal.rank_in-left-requires
rank_in-left-requires c = (c.requires.0, omega (arith, c.requires.1, c.requires.3, c.requires.4), place_in_tree _ _ _ _ c.requires.2 (omega (arith, c.requires.3, c.requires.4)))

pub rank_in-up-requires : goal.rank_in-up-requires
rank_in-up-requires c = (c.requires.0, omega (arith, c.requires.1, c.requires.4), place_in_tree _ _ _ _ c.requires.2 c.requires.4)

pub overflow_add-left : goal.overflow_add-left
overflow_add-left c = omega (arith, c.rank_in-left.ensures.1, all_shifted _ c.requires.0)

pub overflow_mul-up : goal.overflow_mul-up
overflow_mul-up c = omega (arith, c.rank_in-up.ensures.1, all_shifted _ c.requires.0)

pub returns-then-left-all : goal.returns-then-left-all
returns-then-left-all c = children_not _ _ _ _ c.requires.0 _ _ c.rank_in-left.ensures.0 c.rank_in-up.ensures.0 c.if-left-all.true

pub rank_in-right-requires : goal.rank_in-right-requires
rank_in-right-requires c = (c.requires.0, omega (arith, c.requires.1, c.requires.3, c.requires.4), place_in_tree _ _ _ _ c.requires.2 (omega (arith, c.requires.3, c.requires.4)))

pub returns : goal.returns
returns c = children_is _ _ _ _ c.requires.0 _ _ c.rank_in-left.ensures.0 c.rank_in-up.ensures.0 _ c.if-left-all.false c.rank_in-right.ensures.0
