-- Usable, in the tree, held: each return is one case of the definition, and a position of the tree has its cell in a usable store.
use Rattle.std.proofs.Common.{arith, sym, refl}
use Rattle.store.proofs.Answers.{cell_by, held_by, not_held_by, outside_by}
use Rattle.store.specs.StoreLaws.{usable_facts, facts_height, tree_says, held_unusable}
use Rattle.store.proofs.found.Goals as goal

pub returns-then-not-is_usable : goal.returns-then-not-is_usable
returns-then-not-is_usable c = held_unusable _ _ _ (sym c.if-not-is_usable.ensures)

pub height_of-h-requires : goal.height_of-h-requires
height_of-h-requires c = (usable_facts _ (sym c.if-not-is_usable.ensures)).long

pub in_tree-requires : goal.in_tree-requires
in_tree-requires c = omega (arith, facts_height _ (usable_facts _ (sym c.if-not-is_usable.ensures)), c.height_of-h.ensures)

pub returns-then-not-in_tree : goal.returns-then-not-in_tree
returns-then-not-in_tree c = outside_by _ _ _ _ _ _ c.is_usable.ensures c.if-not-is_usable.false c.height_of-h.ensures c.in_tree.ensures _ c.if-not-in_tree.true refl

pub node_number-q-requires : goal.node_number-q-requires
node_number-q-requires c = let t = tree_says _ _ _ (sym c.if-not-in_tree.ensures) in
    (t.0, omega (arith, facts_height _ (usable_facts _ (sym c.if-not-is_usable.ensures)), c.height_of-h.ensures), t.1)

pub held-requires : goal.held-requires
held-requires c = cell_by _ _ _ _ _ _ c.is_usable.ensures c.if-not-is_usable.false c.height_of-h.ensures c.in_tree.ensures c.if-not-in_tree.false _ c.node_number-q.ensures

pub returns-then-not-held : goal.returns-then-not-held
returns-then-not-held c = not_held_by _ _ _ _ _ _ c.is_usable.ensures c.if-not-is_usable.false c.height_of-h.ensures c.in_tree.ensures c.if-not-in_tree.false _ c.node_number-q.ensures _ c.held.ensures _ c.if-not-held.true refl

pub hash_of-requires : goal.hash_of-requires
hash_of-requires c = cell_by _ _ _ _ _ _ c.is_usable.ensures c.if-not-is_usable.false c.height_of-h.ensures c.in_tree.ensures c.if-not-in_tree.false _ c.node_number-q.ensures

pub returns : goal.returns
returns c = held_by _ _ _ _ _ _ c.is_usable.ensures c.if-not-is_usable.false c.height_of-h.ensures c.in_tree.ensures c.if-not-in_tree.false _ c.node_number-q.ensures _ c.held.ensures _ c.if-not-held.false c.hash_of.ensures
