use Rattle.std.proofs.Common.{◌*◌}
use Rattle.bencode.specs.Front.{Alike}
use Rattle.bencode.proofs.front.words_alike.Given as goal

abbrev pub invariant-loop-k : goal.invariant-loop-k
invariant-loop-k l = Alike l.one l.other (4 * l.k)
