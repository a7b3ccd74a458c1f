use Rattle.std.proofs.Common.{arith, length, ◌≡◌, refl, sym, ◌∙◌, ◌<◌, ◌-◌}
use Rattle.filetree.specs.Tree.{max_elements}
use Rattle.filetree.specs.TokenLaws.{leaf_fewer, fewer_behind, opened_ends}
use Rattle.filetree.specs.TreeLaws.{no_levels}
use Rattle.hybrid.specs.CompareLaws.{compare_begin, compares_wrong, compares_bad, compares_end, compares_closed, compares_other, compare_next, compares_inside, inside_behind, compare_past}
use Rattle.hybrid.proofs.+compare_directory.Goals as goal

pub returns-then-levels-eq0 : goal.returns-then-levels-eq0
returns-then-levels-eq0 t c = compares_wrong _ _ _ _ _ _ _ refl (λ p w a r vs b. no_levels _ _ _ p c.if-levels-eq0.true)

pub loop-i-init : goal.loop-i-init
loop-i-init t c = compare_begin c.if-levels-eq0.false c.requires.1

pub shape_of-path-in_err-read_token : goal.shape_of-path-in_err-read_token
shape_of-path-in_err-read_token t c = (let it : length c.loop-i.path ≡ length c.args.path.now = c.loop-i.invariant.sized ∙ sym c.requires.1 in it)

pub returns-in_err-read_token : goal.returns-in_err-read_token
returns-in_err-read_token t c = rw c.from_residual.ensures (compares_bad c.loop-i.invariant (sym c.in_err-read_token.ensures))

pub shape_of-path-in-Closed : goal.shape_of-path-in-Closed
shape_of-path-in-Closed t c = (let it : length c.loop-i.path ≡ length c.args.path.now = c.loop-i.invariant.sized ∙ sym c.requires.1 in it)

pub returns-in-Closed : goal.returns-in-Closed
returns-in-Closed t c = compares_closed c.loop-i.invariant c.loop-i-test.true (sym (rw c.in-Closed.is at c.in_ok-read_token.ensures))

pub set_element-requires : goal.set_element-requires
set_element-requires t c = (c.loop-i.invariant.sized, (let it : max_elements - c.args.levels < max_elements = let few = c.requires.0 in let some = c.if-levels-eq0.false in omega arith in it))

pub meet-requires : goal.meet-requires
meet-requires t c = let deep = (let it : max_elements - c.args.levels < max_elements = let few = c.requires.0 in let some = c.if-levels-eq0.false in omega arith in it) in (c.set_element.auto.path ∙ c.loop-i.invariant.sized, omega arith)

pub shape_of-path-in_err-behind-in-Leaf : goal.shape_of-path-in_err-behind-in-Leaf
shape_of-path-in_err-behind-in-Leaf t c = c.set_element.auto.path ∙ (let it : length c.loop-i.path ≡ length c.args.path.now = c.loop-i.invariant.sized ∙ sym c.requires.1 in it)

pub returns-in_err-behind-in-Leaf : goal.returns-in_err-behind-in-Leaf
returns-in_err-behind-in-Leaf t c = rw c.from_residual-in_err-behind-in-Leaf.ensures (compares_other c.loop-i.invariant c.loop-i-test.true (sym (rw c.in-Leaf.is at c.in_ok-read_token.ensures))
    c.requires.0 c.if-levels-eq0.false c.set_element.ensures c.in_err-behind-in-Leaf.ensures)

pub loop-i-smaller-in-Leaf : goal.loop-i-smaller-in-Leaf
loop-i-smaller-in-Leaf t c = leaf_fewer _ _ _ _ _ _ _ (sym (rw c.in-Leaf.is at c.in_ok-read_token.ensures))

pub loop-i-preserved-in-Leaf : goal.loop-i-preserved-in-Leaf
loop-i-preserved-in-Leaf t c = compare_next c.loop-i.invariant c.loop-i-test.true (sym (rw c.in-Leaf.is at c.in_ok-read_token.ensures))
    c.requires.0 c.if-levels-eq0.false c.set_element.ensures c.in_ok-behind-in-Leaf.ensures

pub set_element-requires-in-Opened : goal.set_element-requires-in-Opened
set_element-requires-in-Opened t c = (c.loop-i.invariant.sized, (let it : max_elements - c.args.levels < max_elements = let few = c.requires.0 in let some = c.if-levels-eq0.false in omega arith in it))

pub overflow_add-end : goal.overflow_add-end
overflow_add-end t c = let ends = (opened_ends _ _ _ _ (sym (rw c.in-Opened.is at c.in_ok-read_token.ensures))).1 in omega arith

pub compare_directory-requires : goal.compare_directory-requires
compare_directory-requires t c = let some = c.if-levels-eq0.false in let few = c.requires.0 in
    (omega arith, (omega arith, c.set_element-in-Opened.auto.path ∙ c.loop-i.invariant.sized))

pub loop-i-smaller : goal.loop-i-smaller
loop-i-smaller t c = let ends = inside_behind _ (sym (rw c.in-Opened.is at c.in_ok-read_token.ensures)) c.in_ok-inside-in-Opened.ensures in
    fewer_behind _ _ _ ends.0 ends.1

pub loop-i-preserved : goal.loop-i-preserved
loop-i-preserved t c = compare_past c.loop-i.invariant c.loop-i-test.true (sym (rw c.in-Opened.is at c.in_ok-read_token.ensures))
    c.requires.0 c.if-levels-eq0.false refl c.set_element-in-Opened.ensures
    (c.compare_directory.auto.path ∙ c.set_element-in-Opened.auto.path ∙ c.loop-i.invariant.sized)
    c.in_ok-inside-in-Opened.ensures

pub shape_of-path-in_err-inside-in-Opened : goal.shape_of-path-in_err-inside-in-Opened
shape_of-path-in_err-inside-in-Opened t c = c.compare_directory.auto.path ∙ c.set_element-in-Opened.auto.path ∙ (let it : length c.loop-i.path ≡ length c.args.path.now = c.loop-i.invariant.sized ∙ sym c.requires.1 in it)

pub returns-in_err-inside-in-Opened : goal.returns-in_err-inside-in-Opened
returns-in_err-inside-in-Opened t c = rw c.from_residual-in_err-inside-in-Opened.ensures (compares_inside c.loop-i.invariant c.loop-i-test.true (sym (rw c.in-Opened.is at c.in_ok-read_token.ensures))
    c.requires.0 c.if-levels-eq0.false refl c.set_element-in-Opened.ensures
    c.in_err-inside-in-Opened.ensures)

pub shape_of-path : goal.shape_of-path
shape_of-path t c = (let it : length c.loop-i.path ≡ length c.args.path.now = c.loop-i.invariant.sized ∙ sym c.requires.1 in it)

pub returns : goal.returns
returns t c = compares_end c.loop-i.invariant c.loop-i-test.false
