-- Before none at all, or before one with a larger count.
use Rattle.std.proofs.Common.{arith, refl}
use Rattle.asking.specs.Picking.{no_piece, this_piece}
use Rattle.asking.proofs.Picks.{before_none, before_some}
use Rattle.asking.proofs.pick.goes_before.Goals as goal

pub returns-in-Some : goal.returns-in-Some
returns-in-Some c = rw c.in-Some.is (before_some _ _ (this_piece c.in-Some.other) (λ e. omega (arith, e)))

pub returns-in-None : goal.returns-in-None
returns-in-None c = rw c.in-None.is (before_none _ _ (no_piece 0) refl)
