use Rattle.std.proofs.Common.{◌∷◌, ◌≤◌, drop, ◌≡◌}
use Rattle.std.proofs.Math.Seq.{paste}
use Rattle.header.specs.Header.{header_size}
use Rattle.serve.proofs.write_head.Given as goal

abbrev pub invariant-loop-i : goal.invariant-loop-i
invariant-loop-i l = (1 ≤ l.i) × (l.i ≤ header_size) × (l.out ≡ paste (l.initial.out) 0 (l.id ∷ drop 1 l.message) l.i)
