-- The walk keeps how far it has come, for any items that v encodes.
use Rattle.std.proofs.Common.{arith, sym, ◌∙◌, rules}
use Rattle.v1.specs.PlaceLaws.{walk_start, walk_inside, walk_bad, walk_ended, walk_few, walk_found, walk_on}
use Rattle.v1.proofs.place.file_at.Goals as goal

pub loop-i-init : goal.loop-i-init
loop-i-init c = (search rules, λ vs f. walk_start _ _ vs f)

pub returns-in-Err : goal.returns-in-Err
returns-in-Err c = λ vs f. let r = c.in-Err.ensures in absurd (walk_bad _ _ _ _ _ vs (c.loop-i.invariant.1 vs f) r)

pub returns-in-Ok-None : goal.returns-in-Ok-None
returns-in-Ok-None c = λ vs f. let r = rw c.in-Ok-None.field-0-is at c.in-Ok-None.ensures in walk_ended _ _ _ _ _ vs (c.loop-i.invariant.1 vs f) r

pub returns-then-is_sought : goal.returns-then-is_sought
returns-then-is_sought c = λ vs f. let r = rw c.in-Ok-Some.field-0-is at c.in-Ok-Some.ensures in
    walk_found _ _ _ _ _ vs (c.loop-i.invariant.1 vs f) _ _ _ _ r (sym c.is_sought.ensures ∙ c.if-is_sought.true)

pub returns-then-length-start : goal.returns-then-length-start
returns-then-length-start c = λ vs f. let r = rw c.in-Ok-Some.field-0-is at c.in-Ok-Some.ensures in
    let w = walk_few _ _ _ _ _ vs (c.loop-i.invariant.1 vs f) _ _ _ _ r f.few in
    absurd (omega (arith, c.if-length-start.true))

pub loop-i-smaller : goal.loop-i-smaller
loop-i-smaller c = let r = rw c.in-Ok-Some.field-0-is at c.in-Ok-Some.ensures in
    let x = r.ends in omega (arith, x.0, x.1)

pub loop-i-preserved : goal.loop-i-preserved
loop-i-preserved c = let r = rw c.in-Ok-Some.field-0-is at c.in-Ok-Some.ensures in
    (omega arith, λ vs f. walk_on _ _ _ _ _ vs (c.loop-i.invariant.1 vs f) _ _ _ _ r (sym c.is_sought.ensures ∙ c.if-is_sought.false) _ c.left_behind-left.ensures)

pub returns : goal.returns
returns c = λ vs f. absurd (walk_inside _ _ _ _ _ vs (c.loop-i.invariant.1 vs f) c.loop-i-test.false)
