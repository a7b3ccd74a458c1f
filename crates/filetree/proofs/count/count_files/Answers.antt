use Rattle.std.proofs.Common.{sym, ◌∙◌}
use Rattle.filetree.specs.CountLaws.{tree_empty, tree_counted}
use Rattle.filetree.proofs.count.count_files.Goals as goal

pub returns-then-ends_here : goal.returns-then-ends_here
returns-then-ends_here c = tree_empty _ _ _ (sym c.ends_here.ensures ∙ c.if-ends_here.true)

pub returns : goal.returns
returns c = tree_counted _ _ _ (sym c.ends_here.ensures ∙ c.if-ends_here.false) _ c.count_directory.ensures
