-- The place reaches no cell past the store; the answer is that of the run, then that of the uncles.
use Rattle.std.proofs.Common.{arith, length, ◌∙◌}
use Rattle.serve.proofs.Answers.{run_cells, held_both, held_not}
use Rattle.serve.proofs.all_held.Goals as goal

pub overflow_mul-n : goal.overflow_mul-n
overflow_mul-n c = let a = c.args in
    omega (arith, run_cells (length a.store.now) a.place c.requires c.run_count-c.result c.run_count-c.ensures.0)

pub held_run-requires : goal.held_run-requires
held_run-requires c = let a = c.args in
    run_cells (length a.store.now) a.place c.requires c.run_count-c.result c.run_count-c.ensures.0

pub returns-then-held_run : goal.returns-then-held_run
returns-then-held_run c = held_both _ _ _ c.run_count-c.ensures.0 _ c.held_run.ensures _ c.if-held_run.true c.held_uncles.ensures

pub returns-else-held_run : goal.returns-else-held_run
returns-else-held_run c = c.if-held_run.false ∙ held_not _ _ _ c.run_count-c.ensures.0 _ c.held_run.ensures c.if-held_run.false
