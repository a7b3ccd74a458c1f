use Rattle.std.proofs.Common.{arith, ◌∙◌}
use Rattle.octets.specs.Octets.{zero_hash}
use Rattle.torrent.proofs.Answering.{root_none, root_some}
use Rattle.torrent.proofs.one.root_of.Goals as goal

pub returns-then-length-eq0 : goal.returns-then-length-eq0
returns-then-length-eq0 c = unfold zero_hash in root_none _ _ _ c.if-length-eq0.true

pub hash_at-requires : goal.hash_at-requires
hash_at-requires c = (omega arith, c.requires c.if-length-eq0.false)

pub returns : goal.returns
returns c = c.hash_at.ensures ∙ root_some _ _ _ c.if-length-eq0.false
