-- Each return is one case of the definition; with the zeros the message is at most the piece length, so that its length is a number of the machine.
use Rattle.pieces.proofs.Halves.{v1_too_long, v1_right, v1_other}
use Rattle.pieces.proofs.v1_number.Goals as goal

pub returns-then-room-zeros : goal.returns-then-room-zeros
returns-then-room-zeros c = v1_too_long _ _ _ _ _ c.piece_length_of-plen.ensures c.requires.1 c.if-room-zeros.true

pub returns : goal.returns
returns c = v1_right _ _ _ _ _ c.piece_length_of-plen.ensures c.requires.1 c.if-room-zeros.false _ c.hash_with_zeros-hash.ensures _ c.same-alike.ensures c.if-not-alike.false

pub returns-then-not-alike : goal.returns-then-not-alike
returns-then-not-alike c = v1_other _ _ _ _ _ c.piece_length_of-plen.ensures c.requires.1 c.if-room-zeros.false _ c.hash_with_zeros-hash.ensures _ c.same-alike.ensures c.if-not-alike.true
