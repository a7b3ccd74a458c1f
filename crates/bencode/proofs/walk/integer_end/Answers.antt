-- What `past_integer` says of the integer that was read.
use Rattle.std.proofs.Common.{ap, sym}
use Rattle.bencode.specs.Walk.{past_integer}
use Rattle.bencode.proofs.walk.integer_end.Goals as goal

pub returns-in-Some : goal.returns-in-Some
returns-in-Some c = sym (ap past_integer (sym c.in-Some.ensures))

pub returns-in-None : goal.returns-in-None
returns-in-None c = sym (ap past_integer (sym c.in-None.ensures))
