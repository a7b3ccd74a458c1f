-- A layer above the root fails the first test; below it the shift is 2 to the layers between.
use Rattle.store.proofs.Answers.{tree_index}
use Rattle.std.proofs.Common.{rules}
use Rattle.store.specs.Store.{in_tree}
use Rattle.store.proofs.in_tree.Goals as goal

pub returns-then-layer-height : goal.returns-then-layer-height
returns-then-layer-height c = tree_index _ _ _ c.requires c.if-layer-height.true

pub returns-else-layer-height : goal.returns-else-layer-height
unfolding in_tree
returns-else-layer-height c = search rules
