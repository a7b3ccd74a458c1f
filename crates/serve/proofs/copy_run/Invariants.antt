use Rattle.std.proofs.Common.{length, ◌≡◌}
use Rattle.octets.specs.Octets.{pasted}
use Rattle.serve.specs.Serve.{run_hashes}
use Rattle.serve.proofs.copy_run.Given as goal

abbrev pub invariant-loop-i : goal.invariant-loop-i
invariant-loop-i l = (length l.out ≡ length l.initial.out) × (l.out ≡ pasted l.initial.out l.at (run_hashes l.store l.n l.i))
