use Rattle.std.proofs.Common.{◌-◌, ◌≡◌}
use Rattle.places.specs.Places.{place_from}
use Rattle.places.proofs.find_place.Given as goal

abbrev pub invariant-loop-i : goal.invariant-loop-i
invariant-loop-i l = place_from l.list l.plen l.i (l.files - l.i) l.left ≡ place_from l.list l.plen 0 l.files l.piece
