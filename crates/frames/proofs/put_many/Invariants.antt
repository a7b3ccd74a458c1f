use Rattle.std.proofs.Common.{◌*◌}
use Rattle.frames.specs.PutLaws.{Copied}
use Rattle.frames.proofs.put_many.Given as goal

-- At each turn the first 64 k bytes are there; the last 64 are put once more, so that those past the last whole turn are among them.
abbrev pub invariant-loop-k : goal.invariant-loop-k
invariant-loop-k l = Copied l.initial.room l.at l.bytes (64 * l.k) l.room
