use Rattle.std.proofs.Common.{arith, sym}
use Rattle.octets.specs.Octets.{cut}
use Rattle.bencode.specs.EndsLaws.{string_ends}
use Rattle.hybrid.specs.EntryLaws.{path_outside}
use Rattle.hybrid.specs.PathLaws.{compare_start, compare_end, compare_wrong, compare_outside, compare_short, compare_other, compare_more}
use Rattle.hybrid.proofs.same_path.Goals as goal

pub returns-then-bytes-at : goal.returns-then-bytes-at
returns-then-bytes-at c = λ ws s f p kp. absurd (path_outside _ _ c.if-bytes-at.true _ s)

pub loop-k-init : goal.loop-k-init
loop-k-init c = compare_start _ _ _ _ _

pub bounds-path-k : goal.bounds-path-k
bounds-path-k c = omega (arith, c.requires)

pub bounds-path-k-in-loop-k : goal.bounds-path-k-in-loop-k
bounds-path-k-in-loop-k c = omega (arith, c.requires)

pub returns-then-y-x : goal.returns-then-y-x
returns-then-y-x c = compare_wrong _ _ _ _ _ _ _ c.loop-k.invariant c.loop-k-test.true _ c.if-y-x.true

pub returns-then-tree-y : goal.returns-then-tree-y
returns-then-tree-y c = compare_outside _ _ _ _ _ _ _ c.loop-k.invariant c.loop-k-test.true _ c.if-tree-y.true

pub returns-in-None : goal.returns-in-None
returns-in-None c = compare_short _ _ _ _ _ _ _ c.loop-k.invariant c.loop-k-test.true (sym c.in-None.ensures)

pub slice_bounds-same-count : goal.slice_bounds-same-count
slice_bounds-same-count c = let e = sym c.in-Some.ensures in
    let g = string_ends _ _ _ _ e in
    omega (arith, g.0, g.1, g.2)

pub slice_bounds-same-start : goal.slice_bounds-same-start
slice_bounds-same-start c = let e = sym c.in-Some.ensures in
    let g = string_ends _ _ _ _ e in
    omega (arith, g.0, g.1, g.2)

pub slice_bounds-same-end : goal.slice_bounds-same-end
slice_bounds-same-end c = let e = sym c.in-Some.ensures in
    let g = string_ends _ _ _ _ e in
    omega (arith, g.0, g.1, g.2)

pub returns-then-not-same : goal.returns-then-not-same
unfolding cut
returns-then-not-same c = let e = sym c.in-Some.ensures in
    let g = string_ends _ _ _ _ e in
    compare_other _ _ _ _ _ _ _ c.loop-k.invariant c.loop-k-test.true _ _ e _ c.same.ensures (c.if-not-same.true)

pub loop-k-preserved : goal.loop-k-preserved
unfolding cut
loop-k-preserved c = let e = sym c.in-Some.ensures in
    let g = string_ends _ _ _ _ e in
    compare_more _ _ _ _ _ _ _ c.loop-k.invariant c.loop-k-test.true _ _ e _ c.same.ensures (c.if-not-same.false)

pub returns : goal.returns
returns c = compare_end _ _ _ _ _ _ _ c.loop-k.invariant c.loop-k-test.false _ c.ends_here.ensures
