-- On 0 the piece is one of the file's, so that its blocks have marks.
use Rattle.std.proofs.Common.{rules, refl, sym}
use Rattle.numbers.specs.Refusals.{refused_is_some}
use Rattle.pieces.proofs.PiecesLaws.{piece_right}
use Rattle.pieces.proofs.Marking.{piece_marked, piece_left}
use Rattle.pieces.proofs.piece_judged.Goals as goal

pub mark_piece-requires : goal.mark_piece-requires
mark_piece-requires c = let w = piece_right _ _ _ (sym c.in_ok-piece_number.ensures) in (w.store, w.inside)

pub returns-in_err-piece_number : goal.returns-in_err-piece_number
returns-in_err-piece_number c =
    let w = piece_left _ _ _ _ c.in_err-piece_number.ensures (refused_is_some _) _ refl in
    record { answer = search (rules, w); left = w.1 }

pub returns : goal.returns
returns c =
    let w = piece_marked _ _ _ _ c.in_ok-piece_number.ensures refl _ c.mark_piece.ensures _ refl in
    record { answer = w.0; left = w.1 }
