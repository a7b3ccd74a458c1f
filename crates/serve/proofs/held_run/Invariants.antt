use Rattle.std.proofs.Common.{true, ◌≡◌}
use Rattle.serve.specs.Serve.{held_run}
use Rattle.serve.proofs.held_run.Given as goal

abbrev pub invariant-loop-i : goal.invariant-loop-i
invariant-loop-i l = (held_run l.store l.n l.i ≡ true)
