-- What the eights leave is gone on with one by one.
use Rattle.std.proofs.Common.{arith, sym, ◌∙◌}
use Rattle.leaves.proofs.put_leaves.Goals as goal

pub put_rest-requires : goal.put_rest-requires
put_rest-requires c = let e = c.put_eights-from in
    (e.ensures.0, omega (arith, e.auto.out))

pub shape_of-out : goal.shape_of-out
shape_of-out c = c.put_rest.auto.out ∙ c.put_eights-from.auto.out

pub returns : goal.returns
returns c = let e = c.put_eights-from in
    c.put_rest.ensures _ (sym e.auto.out) e.ensures.1
