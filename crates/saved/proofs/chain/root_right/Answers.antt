use Rattle.std.proofs.Common.{arith}
use Rattle.saved.proofs.Answers.{root_none, root_other, root_is, place_in_tree, all_shifted, root_cut}
use Rattle.saved.proofs.chain.root_right.Goals as goal

pub returns-then-places-eq0 : goal.returns-then-places-eq0
returns-then-places-eq0 c = root_none _ _ _ c.requires.3 c.if-places-eq0.true

pub rank_in-up-requires : goal.rank_in-up-requires
rank_in-up-requires c = (c.requires.0, omega (arith, c.requires.1, c.if-places-eq0.false), place_in_tree _ _ _ _ c.requires.2 (omega (arith, c.if-places-eq0.false)))

pub overflow_add-up : goal.overflow_add-up
overflow_add-up c = omega (arith, c.rank_in-up.ensures.1, all_shifted _ c.requires.0)

pub returns-then-up-all : goal.returns-then-up-all
returns-then-up-all c = root_other _ _ _ c.requires.3 c.if-places-eq0.false c.requires.0 _ c.rank_in-up.ensures.0 c.if-up-all.true

pub returns : goal.returns
returns c = root_is _ _ _ c.requires.3 c.if-places-eq0.false c.requires.0 _ c.rank_in-up.ensures.0 _ _ _ c.if-up-all.false c.hash_in-mine.ensures (root_cut _ _ c.hash_at-root.ensures) c.same.ensures
