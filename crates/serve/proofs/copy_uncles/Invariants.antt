use Rattle.std.proofs.Common.{length, ◌≡◌}
use Rattle.settling.specs.Path.{ancestor}
use Rattle.octets.specs.Octets.{pasted}
use Rattle.serve.specs.Serve.{uncle_hashes}
use Rattle.serve.proofs.copy_uncles.Given as goal

abbrev pub invariant-loop-i : goal.invariant-loop-i
invariant-loop-i l = (l.x ≡ ancestor l.i l.n) × (length l.out ≡ length l.initial.out) × (l.out ≡ pasted l.initial.out l.at (uncle_hashes l.store l.i l.n))
