use Rattle.std.proofs.Common.{arith, rules}
use Rattle.saved.specs.Form.{place_count}
use Rattle.saved.proofs.Answers.{sized_says}
use Rattle.saved.proofs.form.place_count.Goals as goal

pub mark_count-m-requires : goal.mark_count-m-requires
mark_count-m-requires c = let w = sized_says _ c.requires in omega (arith, w.0)

pub overflow_sub-result : goal.overflow_sub-result
overflow_sub-result c = omega (arith, (sized_says _ c.requires).0, c.mark_count-m.ensures.0)

pub returns : goal.returns
unfolding place_count
returns c = search rules
