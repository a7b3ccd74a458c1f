use Rattle.std.proofs.Common.{arith, ◌≡◌}
use Rattle.stream.proofs.within.Goals as goal

pub returns-then-k-eq0 : goal.returns-then-k-eq0
returns-then-k-eq0 c = let e = c.if-k-eq0.true in rw e

pub returns-then-k-eq1 : goal.returns-then-k-eq1
returns-then-k-eq1 c = let e = c.if-k-eq1.true in rw e

pub returns-then-k-eq2 : goal.returns-then-k-eq2
returns-then-k-eq2 c = let e = c.if-k-eq2.true in rw e

pub returns : goal.returns
returns c = let e : c.args.k ≡ 3 = omega (arith, c.requires) in rw e
