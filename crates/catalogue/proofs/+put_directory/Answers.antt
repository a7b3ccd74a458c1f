use Rattle.std.proofs.Common.{arith, length, ◌≡◌, refl, sym, ◌∙◌, ◌<◌, ◌-◌}
use Rattle.filetree.specs.Tree.{max_elements}
use Rattle.filetree.specs.TokenLaws.{leaf_fewer, fewer_behind, opened_ends}
use Rattle.filetree.specs.TreeLaws.{no_levels, not_wrong}
use Rattle.catalogue.proofs.PutLaws.{put_start, puts_never, puts_bad, puts_end, puts_closed, puts_full, record_right, put_next, inner_right, puts_inside, inside_behind, put_past}
use Rattle.catalogue.proofs.+put_directory.Goals as goal

pub returns-then-levels-eq0 : goal.returns-then-levels-eq0
returns-then-levels-eq0 t c = puts_never _ _ _ _ _ _ _ c.requires.1.given
    (λ p o r u. not_wrong _ r (no_levels _ _ _ p c.if-levels-eq0.true))

pub loop-i-init : goal.loop-i-init
loop-i-init t c = put_start c.if-levels-eq0.false c.requires.1

pub shape_of-path-in_err-read_token : goal.shape_of-path-in_err-read_token
shape_of-path-in_err-read_token t c = (let it : length c.loop-i.path ≡ length c.args.path.now = c.loop-i.invariant.given.sized ∙ sym c.requires.1.given.sized in it)

pub shape_of-out-in_err-read_token : goal.shape_of-out-in_err-read_token
shape_of-out-in_err-read_token t c = c.loop-i.invariant.sized

pub returns-in_err-read_token : goal.returns-in_err-read_token
returns-in_err-read_token t c = rw c.from_residual.ensures (puts_bad c.loop-i.invariant (sym c.in_err-read_token.ensures))

pub shape_of-path-in-Closed : goal.shape_of-path-in-Closed
shape_of-path-in-Closed t c = (let it : length c.loop-i.path ≡ length c.args.path.now = c.loop-i.invariant.given.sized ∙ sym c.requires.1.given.sized in it)

pub shape_of-out-in-Closed : goal.shape_of-out-in-Closed
shape_of-out-in-Closed t c = c.loop-i.invariant.sized

pub returns-in-Closed : goal.returns-in-Closed
returns-in-Closed t c = puts_closed c.loop-i.invariant c.loop-i-test.true (sym (rw c.in-Closed.is at c.in_ok-read_token.ensures))

pub overflow_sub-out : goal.overflow_sub-out
overflow_sub-out t c = let inv = c.loop-i.invariant in let fits = inv.fits in let sized = inv.sized in omega arith

pub shape_of-path-then-out-to-lt-RECORD : goal.shape_of-path-then-out-to-lt-RECORD
shape_of-path-then-out-to-lt-RECORD t c = (let it : length c.loop-i.path ≡ length c.args.path.now = c.loop-i.invariant.given.sized ∙ sym c.requires.1.given.sized in it)

pub shape_of-out-then-out-to-lt-RECORD : goal.shape_of-out-then-out-to-lt-RECORD
shape_of-out-then-out-to-lt-RECORD t c = c.loop-i.invariant.sized

pub returns-then-out-to-lt-RECORD : goal.returns-then-out-to-lt-RECORD
returns-then-out-to-lt-RECORD t c = puts_full c.loop-i.invariant c.loop-i-test.true (sym (rw c.in-Leaf.is at c.in_ok-read_token.ensures)) c.if-out-to-lt-RECORD.true

pub set_element-requires : goal.set_element-requires
set_element-requires t c = (c.loop-i.invariant.given.sized, (let it : max_elements - c.args.spot.levels < max_elements = let few = c.requires.1.shallow in let some = c.if-levels-eq0.false in omega arith in it))

pub put_record-requires : goal.put_record-requires
put_record-requires t c = let pre = c.requires in (
  pre.0,
  record_right c.loop-i.invariant c.loop-i-test.true (sym (rw c.in-Leaf.is at c.in_ok-read_token.ensures)) pre.1
      c.if-levels-eq0.false c.if-out-to-lt-RECORD.false c.set_element.ensures,
)

pub overflow_add-to : goal.overflow_add-to
overflow_add-to t c = let early = c.loop-i.invariant.early in let more = c.loop-i-test.true in
    let within = c.requires.1.tree_within in omega arith

pub loop-i-smaller-in-Leaf : goal.loop-i-smaller-in-Leaf
loop-i-smaller-in-Leaf t c = leaf_fewer _ _ _ _ _ _ _ (sym (rw c.in-Leaf.is at c.in_ok-read_token.ensures))

pub loop-i-preserved-in-Leaf : goal.loop-i-preserved-in-Leaf
loop-i-preserved-in-Leaf t c = put_next c.loop-i.invariant c.loop-i-test.true (sym (rw c.in-Leaf.is at c.in_ok-read_token.ensures))
    c.requires.1 c.if-levels-eq0.false c.if-out-to-lt-RECORD.false c.set_element.ensures
    c.put_record.ensures c.put_record.auto.out

pub set_element-requires-in-Opened : goal.set_element-requires-in-Opened
set_element-requires-in-Opened t c = (c.loop-i.invariant.given.sized, (let it : max_elements - c.args.spot.levels < max_elements = let few = c.requires.1.shallow in let some = c.if-levels-eq0.false in omega arith in it))

pub overflow_add-inside : goal.overflow_add-inside
overflow_add-inside t c = let ends = (opened_ends _ _ _ _ (sym (rw c.in-Opened.is at c.in_ok-read_token.ensures))).1 in omega arith

pub put_directory-requires : goal.put_directory-requires
put_directory-requires t c = let pre = c.requires in
    let right = inner_right c.loop-i.invariant c.loop-i-test.true (sym (rw c.in-Opened.is at c.in_ok-read_token.ensures))
    pre.1 c.if-levels-eq0.false refl c.set_element-in-Opened.ensures c.loop-i.out refl in
    ((let it : c.args.spot.levels - 1 < t = let same = c.decreases in let some = c.if-levels-eq0.false in omega arith in it), (pre.0, right))

pub loop-i-smaller : goal.loop-i-smaller
loop-i-smaller t c = let ends = inside_behind _ (sym (rw c.in-Opened.is at c.in_ok-read_token.ensures)) c.in_ok-put-in-Opened.ensures refl in
    fewer_behind _ _ _ ends.0 ends.1

pub loop-i-preserved : goal.loop-i-preserved
loop-i-preserved t c = put_past c.loop-i.invariant c.loop-i-test.true (sym (rw c.in-Opened.is at c.in_ok-read_token.ensures))
    c.requires.1 c.if-levels-eq0.false refl c.set_element-in-Opened.ensures c.put_directory.auto.out
    c.in_ok-put-in-Opened.ensures

pub shape_of-path-in_err-put-in-Opened : goal.shape_of-path-in_err-put-in-Opened
shape_of-path-in_err-put-in-Opened t c = c.put_directory.auto.path ∙ c.set_element-in-Opened.auto.path ∙ (let it : length c.loop-i.path ≡ length c.args.path.now = c.loop-i.invariant.given.sized ∙ sym c.requires.1.given.sized in it)

pub shape_of-out-in_err-put-in-Opened : goal.shape_of-out-in_err-put-in-Opened
shape_of-out-in_err-put-in-Opened t c = c.put_directory.auto.out ∙ c.loop-i.invariant.sized

pub returns-in_err-put-in-Opened : goal.returns-in_err-put-in-Opened
returns-in_err-put-in-Opened t c = rw c.from_residual-in_err-put-in-Opened.ensures (puts_inside c.loop-i.invariant c.loop-i-test.true (sym (rw c.in-Opened.is at c.in_ok-read_token.ensures))
    c.requires.1 c.if-levels-eq0.false refl c.set_element-in-Opened.ensures c.put_directory.auto.out
    c.in_err-put-in-Opened.ensures)

pub shape_of-path : goal.shape_of-path
shape_of-path t c = (let it : length c.loop-i.path ≡ length c.args.path.now = c.loop-i.invariant.given.sized ∙ sym c.requires.1.given.sized in it)

pub shape_of-out : goal.shape_of-out
shape_of-out t c = c.loop-i.invariant.sized

pub returns : goal.returns
returns t c = puts_end c.loop-i.invariant c.loop-i-test.false
