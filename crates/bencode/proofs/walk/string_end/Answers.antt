-- What `past_string` says of the string that was read.
use Rattle.std.proofs.Common.{ap, sym}
use Rattle.bencode.specs.Walk.{past_string}
use Rattle.bencode.proofs.walk.string_end.Goals as goal

pub returns-in-Some : goal.returns-in-Some
returns-in-Some c = sym (ap past_string (sym c.in-Some.ensures))

pub returns-in-None : goal.returns-in-None
returns-in-None c = sym (ap past_string (sym c.in-None.ensures))
