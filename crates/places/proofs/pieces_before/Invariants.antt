use Rattle.std.proofs.Common.{◌≡◌}
use Rattle.places.specs.Places.{pieces_before}
use Rattle.places.proofs.pieces_before.Given as goal

abbrev pub invariant-loop-i : goal.invariant-loop-i
invariant-loop-i l = l.sum ≡ pieces_before l.list l.plen l.i
