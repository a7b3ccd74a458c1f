use Rattle.std.proofs.Common.{arith, ap, ℕ, ◌+◌, ◌*◌}
use Rattle.store.specs.StoreLaws.{usable_facts, facts_positions}
use Rattle.marks.specs.Marks.{marks_start}
use Rattle.marks.proofs.marks_start.Goals as goal

pub overflow_mul-result : goal.overflow_mul-result
overflow_mul-result c = omega (arith, c.positions_of-p.ensures, facts_positions _ (usable_facts _ c.requires))

pub overflow_add-result : goal.overflow_add-result
overflow_add-result c = omega (arith, c.positions_of-p.ensures, facts_positions _ (usable_facts _ c.requires))

pub returns : goal.returns
unfolding marks_start
returns c = ap (λ (p : ℕ). 31 + 33 * p) c.positions_of-p.ensures
