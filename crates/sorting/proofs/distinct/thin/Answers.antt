use Rattle.std.proofs.Common.{arith}
use Rattle.sorting.proofs.Thinning.{thinned_none, thinned_start, thinned_end, thinned_on}
use Rattle.sorting.proofs.distinct.thin.Goals as goal

pub returns-then-at-eq0 : goal.returns-then-at-eq0
returns-then-at-eq0 c = thinned_none 0 _ _ c.if-at-eq0.true

pub loop-i-init : goal.loop-i-init
loop-i-init c = thinned_start _ _ _ c.if-at-eq0.false c.requires

pub keep-kept-requires : goal.keep-kept-requires
keep-kept-requires c = let w = c.loop-i.invariant in (w.fit, w.some, w.order, omega (arith, w.size, c.loop-i-test.true))

pub loop-i-preserved : goal.loop-i-preserved
loop-i-preserved c = thinned_on _ _ _ _ _ _ c.loop-i.invariant (omega (arith, c.loop-i.invariant.size, c.loop-i-test.true)) _ _ c.keep-kept.ensures

pub shape_of-at : goal.shape_of-at
shape_of-at c = c.loop-i.invariant.size

pub returns : goal.returns
returns c = thinned_end _ _ _ _ _ _ c.loop-i.invariant (omega (arith, c.loop-i.invariant.size, c.loop-i-test.false))
