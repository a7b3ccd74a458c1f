use Rattle.std.proofs.Common.{length}
use Rattle.session.proofs.Turns.{Reached}
use Rattle.session.specs.Session.{seen}
use Rattle.session.proofs.take_piece.Given as goal

abbrev pub invariant-loop-i : goal.invariant-loop-i
invariant-loop-i l = Reached (seen l.initial.q l.initial.store l.initial.room) l.piece (length l.initial.store) (length l.initial.room) l.store l.room l.q l.i
