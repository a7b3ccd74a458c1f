use Rattle.std.proofs.Common.{◌-◌, length}
use Rattle.bencode.proofs.Finding.{FindAt}
use Rattle.bencode.proofs.parts.find.Given as goal

abbrev pub invariant-loop-entry : goal.invariant-loop-entry
invariant-loop-entry l = FindAt l.key l.bytes l.at l.i

abbrev pub decreases-loop-entry : goal.decreases-loop-entry
decreases-loop-entry l = length l.bytes - l.i
