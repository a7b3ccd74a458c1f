use Rattle.std.proofs.Common.{◌≡◌}
use Rattle.catalogue.specs.Asks.{array_elements}
use Rattle.octets.specs.Octets.{pasted}
use Rattle.catalogue.proofs.record.put_elements.Given as goal

abbrev pub invariant-loop-k : goal.invariant-loop-k
invariant-loop-k l = (l.out ≡ pasted l.initial.out l.at (array_elements l.base l.path l.n l.k))
