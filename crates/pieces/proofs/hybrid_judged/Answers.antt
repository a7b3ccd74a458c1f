-- On 0 the v2 half gives 0 too, so that the piece is one of the file's and its blocks have marks.
use Rattle.std.proofs.Common.{rules, refl}
use Rattle.numbers.specs.Refusals.{refused_is_some}
use Rattle.pieces.proofs.PiecesLaws.{piece_right}
use Rattle.pieces.proofs.Halves.{hybrid_piece}
use Rattle.pieces.proofs.Marking.{hybrid_marked, hybrid_left}
use Rattle.pieces.proofs.hybrid_judged.Goals as goal

pub mark_piece-requires : goal.mark_piece-requires
mark_piece-requires c = let w = piece_right _ _ _ (hybrid_piece _ _ _ _ _ _ c.in_ok-hybrid_number.ensures refl) in (w.store, w.inside)

pub returns-in_err-hybrid_number : goal.returns-in_err-hybrid_number
returns-in_err-hybrid_number c =
    let w = hybrid_left _ _ _ _ _ _ c.in_err-hybrid_number.ensures (refused_is_some _) _ refl in
    record { answer = search (rules, w); left = w.1 }

pub returns : goal.returns
returns c =
    let w = hybrid_marked _ _ _ _ _ _ c.in_ok-hybrid_number.ensures refl _ c.mark_piece.ensures _ refl in
    record { answer = w.0; left = w.1 }
