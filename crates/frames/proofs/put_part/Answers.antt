use Rattle.std.proofs.Common.{◌+◌, ap, ◌∙◌}
use Rattle.octets.specs.Octets.{pasted}
use Rattle.frames.proofs.put_part.Goals as goal

pub returns : goal.returns
returns c = c.put_hash.ensures ∙ ap (pasted c.args.room.now (c.args.at + c.args.i)) c.hash_at-part.ensures
