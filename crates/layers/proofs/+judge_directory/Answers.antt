use Rattle.std.proofs.Common.{arith, refl, sym}
use Rattle.filetree.specs.TokenLaws.{leaf_fewer, fewer_behind, opened_ends}
use Rattle.filetree.specs.TreeLaws.{no_levels}
use Rattle.layers.specs.JudgeLaws.{judged_start, judges_bad, judges_end, judges_closed, file_behind, judged_file, judges_inside, directory_behind, judged_directory}
use Rattle.layers.proofs.+judge_directory.Goals as goal

pub returns-then-levels-eq0 : goal.returns-then-levels-eq0
returns-then-levels-eq0 t c = λ p. no_levels _ _ _ p c.if-levels-eq0.true

pub loop-i-init : goal.loop-i-init
loop-i-init t c = judged_start _ _ _ _ _ _ c.if-levels-eq0.false

pub returns-in_err-read_token : goal.returns-in_err-read_token
returns-in_err-read_token t c = rw c.from_residual.ensures (judges_bad _ _ _ _ _ _ _ _ _ c.loop-i.invariant (sym c.in_err-read_token.ensures))

pub returns-in-Closed : goal.returns-in-Closed
returns-in-Closed t c = judges_closed _ _ _ _ _ _ _ _ _ c.loop-i.invariant c.loop-i-test.true
    (sym (rw c.in-Closed.is at c.in_ok-read_token.ensures)) _ refl

pub number_by_layer-judged-requires : goal.number_by_layer-judged-requires
number_by_layer-judged-requires t c = let pre = c.requires in
    let file = file_behind _ _ _ _ _ _ _ _ _ c.loop-i.invariant c.loop-i-test.true _ _ _ _ _
    (sym (rw c.in-Leaf.is at c.in_ok-read_token.ensures)) in
    (pre.0, pre.1, file.2, file.3, pre.2)

pub loop-i-smaller-in-Leaf : goal.loop-i-smaller-in-Leaf
loop-i-smaller-in-Leaf t c = leaf_fewer _ _ _ _ _ _ _ (sym (rw c.in-Leaf.is at c.in_ok-read_token.ensures))

pub loop-i-preserved-in-Leaf : goal.loop-i-preserved-in-Leaf
loop-i-preserved-in-Leaf t c = judged_file _ _ _ _ _ _ _ _ _ c.loop-i.invariant c.loop-i-test.true _ _ _ _ _
    (sym (rw c.in-Leaf.is at c.in_ok-read_token.ensures)) _ _ c.number_by_layer-judged.ensures c.lower_of-worst.ensures

pub overflow_add-end : goal.overflow_add-end
overflow_add-end t c = let inside = (opened_ends _ _ _ _ (sym (rw c.in-Opened.is at c.in_ok-read_token.ensures))).1 in omega arith

pub judge_directory-requires : goal.judge_directory-requires
judge_directory-requires t c = let left = c.if-levels-eq0.false in (omega arith, c.requires)

pub loop-i-smaller : goal.loop-i-smaller
loop-i-smaller t c = let ends = directory_behind _ _ _ _ _ _ _ _ _ c.loop-i.invariant c.loop-i-test.true _ _
    (sym (rw c.in-Opened.is at c.in_ok-read_token.ensures)) _ c.in_ok-inside-in-Opened.ensures in
    fewer_behind _ _ _ ends.0 ends.1

pub loop-i-preserved : goal.loop-i-preserved
loop-i-preserved t c = judged_directory _ _ _ _ _ _ _ _ _ c.loop-i.invariant c.loop-i-test.true _ _
    (sym (rw c.in-Opened.is at c.in_ok-read_token.ensures)) _ c.in_ok-inside-in-Opened.ensures

pub returns-in_err-inside-in-Opened : goal.returns-in_err-inside-in-Opened
returns-in_err-inside-in-Opened t c = rw c.from_residual-in_err-inside-in-Opened.ensures (judges_inside _ _ _ _ _ _ _ _ _ c.loop-i.invariant c.loop-i-test.true _ _
    (sym (rw c.in-Opened.is at c.in_ok-read_token.ensures)) c.in_err-inside-in-Opened.ensures)

pub returns : goal.returns
returns t c = judges_end _ _ _ _ _ _ _ _ _ c.loop-i.invariant c.loop-i-test.false
