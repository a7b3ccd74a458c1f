use Rattle.torrent.specs.KeysLaws.{found_before, found_now, found_not}
use Rattle.octets.specs.Octets.{cut}
use Rattle.torrent.proofs.both.found_by.Goals as goal

pub returns-then-same : goal.returns-then-same
unfolding cut
returns-then-same c = found_now _ c.in-None.is _ _ c.same.ensures _ _ c.if-same.true

pub returns-in-Some : goal.returns-in-Some
returns-in-Some c = found_before _ _ _ _ c.in-Some.is

pub returns-else-same : goal.returns-else-same
unfolding cut
returns-else-same c = found_not _ c.in-None.is _ _ c.same.ensures _ _ c.if-same.false
