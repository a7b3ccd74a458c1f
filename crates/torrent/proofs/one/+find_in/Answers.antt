use Rattle.std.proofs.Common.{arith, sym, ◌∙◌}
use Rattle.filetree.specs.TokenLaws.{leaf_fewer, opened_ends}
use Rattle.filetree.specs.TreeLaws.{no_levels}
use Rattle.torrent.specs.FindLaws.{find_start, element_asked, inside_asked, finds_wrong, finds_bad, finds_end, finds_closed, finds_here, find_next, finds_inside, finds_found, inside_fewer, find_past}
use Rattle.torrent.proofs.one.+find_in.Goals as goal

pub loop-i-init : goal.loop-i-init
loop-i-init t c = let pre = c.requires in find_start _ _ _ _ _ pre.0 c.if-levels-eq0.false pre.1

pub returns-in-None : goal.returns-in-None
returns-in-None t c = finds_bad c.loop-i.invariant (sym c.in-None.ensures)

pub returns-in-Some-Closed : goal.returns-in-Some-Closed
returns-in-Some-Closed t c = finds_closed c.loop-i.invariant c.loop-i-test.true (sym (rw c.in-Some-Closed.field-0-is at c.in-Some-Closed.ensures))

pub returns-then-left-eq0 : goal.returns-then-left-eq0
returns-then-left-eq0 t c = finds_here c.loop-i.invariant c.loop-i-test.true (sym (rw c.in-Some-Leaf.field-0-is at c.in-Some-Leaf.ensures))
    c.if-left-eq0.true c.set_element.ensures

pub loop-i-smaller-in-Some-Leaf : goal.loop-i-smaller-in-Some-Leaf
loop-i-smaller-in-Some-Leaf t c = leaf_fewer _ _ _ _ _ _ _ (sym (rw c.in-Some-Leaf.field-0-is at c.in-Some-Leaf.ensures))

pub loop-i-preserved-in-Some-Leaf : goal.loop-i-preserved-in-Some-Leaf
loop-i-preserved-in-Some-Leaf t c = find_next c.loop-i.invariant c.loop-i-test.true (sym (rw c.in-Some-Leaf.field-0-is at c.in-Some-Leaf.ensures)) c.if-left-eq0.false

pub overflow_add-end : goal.overflow_add-end
overflow_add-end t c = let within = (opened_ends _ _ _ _ (sym (rw c.in-Some-Opened.field-0-is at c.in-Some-Opened.ensures))).1 in omega arith

pub find_in-requires : goal.find_in-requires
find_in-requires t c = inside_asked c.loop-i.invariant c.set_element-in-Some-Opened.new.path c.set_element-in-Some-Opened.auto.path c.decreases

pub returns-in-Here : goal.returns-in-Here
returns-in-Here t c = finds_found c.loop-i.invariant c.loop-i-test.true (sym (rw c.in-Some-Opened.field-0-is at c.in-Some-Opened.ensures))
    c.set_element-in-Some-Opened.ensures (rw c.in-Here.is at c.find_in.ensures)

pub loop-i-smaller : goal.loop-i-smaller
loop-i-smaller t c = inside_fewer c.loop-i.invariant c.loop-i-test.true (sym (rw c.in-Some-Opened.field-0-is at c.in-Some-Opened.ensures))
    c.set_element-in-Some-Opened.ensures (rw c.in-Past.is at c.find_in.ensures)

pub loop-i-preserved : goal.loop-i-preserved
loop-i-preserved t c = find_past c.loop-i.invariant c.loop-i-test.true (sym (rw c.in-Some-Opened.field-0-is at c.in-Some-Opened.ensures))
    c.set_element-in-Some-Opened.ensures (rw c.in-Past.is at c.find_in.ensures) c.find_in.auto.path

pub returns-in-WrongTree : goal.returns-in-WrongTree
returns-in-WrongTree t c = finds_inside c.loop-i.invariant c.loop-i-test.true (sym (rw c.in-Some-Opened.field-0-is at c.in-Some-Opened.ensures))
    c.set_element-in-Some-Opened.ensures (rw c.in-WrongTree.is at c.find_in.ensures)

pub returns-then-levels-eq0 : goal.returns-then-levels-eq0
returns-then-levels-eq0 t c = finds_wrong _ _ _ _ _ _ (λ p w e. no_levels _ _ _ p c.if-levels-eq0.true)

pub shape_of-path-in-None : goal.shape_of-path-in-None
shape_of-path-in-None t c = c.loop-i.invariant.kept

pub shape_of-path-in-Some-Closed : goal.shape_of-path-in-Some-Closed
shape_of-path-in-Some-Closed t c = c.loop-i.invariant.kept

pub set_element-requires : goal.set_element-requires
set_element-requires t c = element_asked c.loop-i.invariant

pub shape_of-path-then-left-eq0 : goal.shape_of-path-then-left-eq0
shape_of-path-then-left-eq0 t c = c.set_element.auto.path ∙ c.loop-i.invariant.kept

pub set_element-requires-in-Some-Opened : goal.set_element-requires-in-Some-Opened
set_element-requires-in-Some-Opened t c = element_asked c.loop-i.invariant

pub shape_of-path-in-Here : goal.shape_of-path-in-Here
shape_of-path-in-Here t c = c.find_in.auto.path ∙ c.set_element-in-Some-Opened.auto.path ∙ c.loop-i.invariant.kept

pub shape_of-path-in-WrongTree : goal.shape_of-path-in-WrongTree
shape_of-path-in-WrongTree t c = c.find_in.auto.path ∙ c.set_element-in-Some-Opened.auto.path ∙ c.loop-i.invariant.kept

pub shape_of-path : goal.shape_of-path
shape_of-path t c = c.loop-i.invariant.kept

pub returns : goal.returns
returns t c = finds_end c.loop-i.invariant c.loop-i-test.false
