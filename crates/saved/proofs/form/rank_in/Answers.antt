use Rattle.std.proofs.Common.{arith}
use Rattle.saved.proofs.Answers.{rank_low, rank_all, rank_above, rank_fits, rank_small, rank_by, pow_small}
use Rattle.saved.proofs.form.rank_in.Goals as goal

pub overflow_sub-d : goal.overflow_sub-d
overflow_sub-d c = rank_low _ _ _ _ _ c.layer_in-l.ensures c.index_in-i.ensures c.requires.0 c.requires.2

pub overflow_sub-result : goal.overflow_sub-result
overflow_sub-result c = omega (arith, rank_all _ _ _ _ _ c.layer_in-l.ensures c.index_in-i.ensures c.requires.0 c.requires.2, rank_above _ _ _ _ _ c.layer_in-l.ensures c.index_in-i.ensures c.requires.0 c.requires.2, rank_fits _ _ _ _ _ c.layer_in-l.ensures c.index_in-i.ensures c.requires.0 c.requires.2)

pub overflow_add-result : goal.overflow_add-result
overflow_add-result c = omega (arith, rank_all _ _ _ _ _ c.layer_in-l.ensures c.index_in-i.ensures c.requires.0 c.requires.2, rank_above _ _ _ _ _ c.layer_in-l.ensures c.index_in-i.ensures c.requires.0 c.requires.2, rank_small _ _ _ _ _ c.layer_in-l.ensures c.index_in-i.ensures c.requires.0 c.requires.2, pow_small _ c.requires.0)

pub returns : goal.returns
returns c = rank_by _ _ _ _ _ c.layer_in-l.ensures c.index_in-i.ensures c.requires.0 c.requires.2 _ _ (rank_all _ _ _ _ _ c.layer_in-l.ensures c.index_in-i.ensures c.requires.0 c.requires.2) (rank_above _ _ _ _ _ c.layer_in-l.ensures c.index_in-i.ensures c.requires.0 c.requires.2)
