use Rattle.std.proofs.Common.{rules}
use Rattle.writer_output.specs.LayersLaws.{root_compared}
use Rattle.writer_output.proofs.layer.root_repeats.Goals as goal

pub overflow_add-p : goal.overflow_add-p
overflow_add-p c = let w = c.requires.1 c.in-Some.p c.in-Some.is in search rules

pub overflow_add-p-in-Some : goal.overflow_add-p-in-Some
overflow_add-p-in-Some c = let w = c.requires.1 c.in-Some.p c.in-Some.is in search rules

pub slice_bounds-same-end : goal.slice_bounds-same-end
slice_bounds-same-end c = let w = c.requires.1 c.in-Some.p c.in-Some.is in search rules

pub returns-in-Some : goal.returns-in-Some
returns-in-Some c = rw c.in-Some.is (root_compared _ _ _ _ c.same.ensures)
