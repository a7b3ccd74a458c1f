use Rattle.std.proofs.Common.{arith, ◌<◌, length, sym, ◌∙◌}
use Rattle.filetree.proofs.Reading.{past_wrong, past_end, past_more}
use Rattle.filetree.specs.TokenLaws.{ends_inside}
use Rattle.filetree.proofs.token.past_file.Goals as goal

pub overflow_add-result : goal.overflow_add-result
overflow_add-result c = let below : c.in-Ok.k < length c.args.tree.now = ends_inside _ _ (sym c.ends_here.ensures ∙ c.if-ends_here.true) in omega arith

pub returns-then-ends_here : goal.returns-then-ends_here
returns-then-ends_here c = sym (past_end _ _ _ _ _ _ _ (sym c.in-Ok.ensures) (sym c.ends_here.ensures ∙ c.if-ends_here.true))

pub returns-in-Err : goal.returns-in-Err
returns-in-Err c = sym (past_wrong _ _ _ _ _ _ _ (sym c.in-Err.ensures))

pub returns-else-ends_here : goal.returns-else-ends_here
returns-else-ends_here c = sym (past_more _ _ _ _ _ _ _ (sym c.in-Ok.ensures) (sym c.ends_here.ensures ∙ c.if-ends_here.false))
