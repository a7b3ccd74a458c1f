use Rattle.std.proofs.Common.{true, ◌≡◌}
use Rattle.settling.specs.Path.{ancestor}
use Rattle.serve.specs.Serve.{held_uncles}
use Rattle.serve.proofs.held_uncles.Given as goal

abbrev pub invariant-loop-i : goal.invariant-loop-i
invariant-loop-i l = (l.x ≡ ancestor l.i l.n) × (held_uncles l.store l.i l.n ≡ true)
