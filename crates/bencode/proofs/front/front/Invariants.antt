use Rattle.bencode.specs.Front.{Alike}
use Rattle.bencode.proofs.front.front.Given as goal

abbrev pub invariant-loop-i : goal.invariant-loop-i
invariant-loop-i l = Alike l.one l.other l.i
