use Rattle.std.proofs.Common.{lt-ltb, le-ltb, arith, suc}
use Rattle.running.specs.Bursts.{possible}
use Rattle.limits.specs.Limits.{longest_hashed}
use Rattle.running.proofs.is_possible.Goals as goal

pub returns-then-total-le-LONGEST_HASHED : goal.returns-then-total-le-LONGEST_HASHED
unfolding possible
returns-then-total-le-LONGEST_HASHED c = rw (lt-ltb c.args.total (suc longest_hashed) (omega (arith, c.if-total-le-LONGEST_HASHED.true)))

pub returns : goal.returns
unfolding possible
returns c = rw (le-ltb c.args.total (suc longest_hashed) (omega (arith, c.if-total-le-LONGEST_HASHED.false)))
