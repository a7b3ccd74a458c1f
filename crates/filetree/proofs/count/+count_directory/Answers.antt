use Rattle.std.proofs.Common.{arith, sym}
use Rattle.filetree.specs.TokenLaws.{leaf_fewer, fewer_behind, opened_ends}
use Rattle.filetree.specs.TreeLaws.{no_levels}
use Rattle.filetree.specs.CountLaws.{counted_start, counts_wrong, counts_bad, counts_end, counts_closed, counted_file, counts_inside, directory_behind, counted_directory, file_asked, further}
use Rattle.filetree.proofs.count.+count_directory.Goals as goal

pub returns-then-levels-eq0 : goal.returns-then-levels-eq0
returns-then-levels-eq0 t c = counts_wrong _ _ _ _ _ _ (λ p. no_levels _ _ _ p c.if-levels-eq0.true)

pub loop-i-init : goal.loop-i-init
loop-i-init t c = let pre = c.requires in counted_start _ _ _ _ _ c.if-levels-eq0.false pre.2 pre.1

pub returns-in_err-read_token : goal.returns-in_err-read_token
returns-in_err-read_token t c = rw c.from_residual.ensures (counts_bad c.loop-i.invariant (sym c.in_err-read_token.ensures))

pub returns-in-Closed : goal.returns-in-Closed
returns-in-Closed t c = counts_closed c.loop-i.invariant c.loop-i-test.true (sym (rw c.in-Closed.is at c.in_ok-read_token.ensures))

pub count_file-tally-requires : goal.count_file-tally-requires
count_file-tally-requires t c = let e = sym (rw c.in-Leaf.is at c.in_ok-read_token.ensures) in
    file_asked c.loop-i.invariant c.loop-i-test.true e c.requires.0

pub loop-i-smaller-in-Leaf : goal.loop-i-smaller-in-Leaf
loop-i-smaller-in-Leaf t c = leaf_fewer _ _ _ _ _ _ _ (sym (rw c.in-Leaf.is at c.in_ok-read_token.ensures))

pub loop-i-preserved-in-Leaf : goal.loop-i-preserved-in-Leaf
loop-i-preserved-in-Leaf t c = let counted = c.count_file-tally.ensures in
    let e = sym (rw c.in-Leaf.is at c.in_ok-read_token.ensures) in
    counted_file c.loop-i.invariant c.loop-i-test.true e c.requires.0 _ _ counted.0 counted.1

pub overflow_add-end : goal.overflow_add-end
overflow_add-end t c = let inside = (opened_ends _ _ _ _ (sym (rw c.in-Opened.is at c.in_ok-read_token.ensures))).1 in omega arith

pub count_directory-requires : goal.count_directory-requires
count_directory-requires t c = let left = c.if-levels-eq0.false in let inv = c.loop-i.invariant in
    let on = (opened_ends _ _ _ _ (sym (rw c.in-Opened.is at c.in_ok-read_token.ensures))).0 in
    (omega arith, (c.requires.0, inv.sized, further _ _ _ (omega arith) inv.within))

pub loop-i-smaller : goal.loop-i-smaller
loop-i-smaller t c = let e = sym (rw c.in-Opened.is at c.in_ok-read_token.ensures) in
    let ends = directory_behind c.loop-i.invariant c.loop-i-test.true e
    _ _ _ c.in_ok-inside-in-Opened.ensures c.count_directory.auto.roots c.requires.0 in
    fewer_behind _ _ _ ends.0 ends.1

pub loop-i-preserved : goal.loop-i-preserved
loop-i-preserved t c = let e = sym (rw c.in-Opened.is at c.in_ok-read_token.ensures) in
    counted_directory c.loop-i.invariant c.loop-i-test.true e
    _ _ _ c.in_ok-inside-in-Opened.ensures c.count_directory.auto.roots c.requires.0

pub returns-in_err-inside-in-Opened : goal.returns-in_err-inside-in-Opened
returns-in_err-inside-in-Opened t c = let e = sym (rw c.in-Opened.is at c.in_ok-read_token.ensures) in
    rw c.from_residual-in_err-inside-in-Opened.ensures (counts_inside c.loop-i.invariant c.loop-i-test.true e _ c.in_err-inside-in-Opened.ensures)

pub returns : goal.returns
returns t c = counts_end c.loop-i.invariant c.loop-i-test.false
